-- Worked tables: each C1 code with its name in the serial set of ETS 300 072 and in the parallel one of T/CD 6-1, by
-- computing.
use Rattle.std.proofs.Common.{◌≡◌, ℕ, List, [], ◌∷◌, codes, map, refl}
use Rattle.std.specs.Fmt.{digits}
use Rattle.cept_codes.specs.declared.command.Command.TheVariants as commands
use Rattle.cept_listing.specs.Listing.{command_text}

-- codes counted from 8/0, each with its text
abbrev named : List (ℕ × List ℕ) → Type 0
named rows =
    map (λ (row : ℕ × List ℕ). command_text (commands.C1 row.0)) rows ≡ map (λ (row : ℕ × List ℕ). row.1) rows

column_8 : named (
    (0, codes "C1 8/0 ABK BKF")
    ∷ (1, codes "C1 8/1 ANR RDF")
    ∷ (2, codes "C1 8/2 ANG GRF")
    ∷ (3, codes "C1 8/3 ANY YLF")
    ∷ (4, codes "C1 8/4 ANB BLF")
    ∷ (5, codes "C1 8/5 ANM MGF")
    ∷ (6, codes "C1 8/6 ANC CNF")
    ∷ (7, codes "C1 8/7 ANW WHF")
    ∷ (8, codes "C1 8/8 FSH FSH")
    ∷ (9, codes "C1 8/9 STD STD")
    ∷ (10, codes "C1 8/10 EBX EBX")
    ∷ (11, codes "C1 8/11 SBX SBX")
    ∷ (12, codes "C1 8/12 NSZ NSZ")
    ∷ (13, codes "C1 8/13 DBH DBH")
    ∷ (14, codes "C1 8/14 DBW DBW")
    ∷ (15, codes "C1 8/15 DBS DBS") ∷ [])
unfolding command_text digits
column_8 = refl

column_9 : named (
    (16, codes "C1 9/0 MBK BKB")
    ∷ (17, codes "C1 9/1 MSR RDB")
    ∷ (18, codes "C1 9/2 MSG GRB")
    ∷ (19, codes "C1 9/3 MSY YLB")
    ∷ (20, codes "C1 9/4 MSB BLB")
    ∷ (21, codes "C1 9/5 MSM MGB")
    ∷ (22, codes "C1 9/6 MSC CNB")
    ∷ (23, codes "C1 9/7 MSW WHB")
    ∷ (24, codes "C1 9/8 CDY CDY")
    ∷ (25, codes "C1 9/9 SPL SPL")
    ∷ (26, codes "C1 9/10 STL STL")
    ∷ (28, codes "C1 9/12 BBD NPO")
    ∷ (29, codes "C1 9/13 NBD IPO")
    ∷ (30, codes "C1 9/14 HMS TRB")
    ∷ (31, codes "C1 9/15 RMS STC") ∷ [])
unfolding command_text digits
column_9 = refl
