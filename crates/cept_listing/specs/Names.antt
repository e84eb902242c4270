-- The short names of control functions: of the C1 sets and of the flash modes (T/CD 6-1, ETS 300 072), and of the
-- designations of G0 to G3 (ISO 2022).
use Rattle.std.specs.Prelude.{ℕ, List, [], ◌∷◌, codes}
use Rattle.std.specs.List.{slice_index_or}

-- the serial set, 8/0 to 9/15: alpha colours, flash, box, sizes, mosaic colours, concealing, lining, backgrounds, hold
abbrev pub serial_names : List (List ℕ)
serial_names =
    codes "ABK" ∷ codes "ANR" ∷ codes "ANG" ∷ codes "ANY" ∷ codes "ANB" ∷ codes "ANM" ∷ codes "ANC" ∷ codes "ANW"
    ∷ codes "FSH" ∷ codes "STD" ∷ codes "EBX" ∷ codes "SBX" ∷ codes "NSZ" ∷ codes "DBH" ∷ codes "DBW" ∷ codes "DBS"
    ∷ codes "MBK" ∷ codes "MSR" ∷ codes "MSG" ∷ codes "MSY" ∷ codes "MSB" ∷ codes "MSM" ∷ codes "MSC" ∷ codes "MSW"
    ∷ codes "CDY" ∷ codes "SPL" ∷ codes "STL" ∷ codes "CSI" ∷ codes "BBD" ∷ codes "NBD" ∷ codes "HMS" ∷ codes "RMS" ∷ []

-- the parallel set, from 8/0 to 9/15: foregrounds, flash, box and sizes, backgrounds, concealing, lining and polarity
abbrev pub parallel_names : List (List ℕ)
parallel_names =
    codes "BKF" ∷ codes "RDF" ∷ codes "GRF" ∷ codes "YLF" ∷ codes "BLF" ∷ codes "MGF" ∷ codes "CNF" ∷ codes "WHF"
    ∷ codes "FSH" ∷ codes "STD" ∷ codes "EBX" ∷ codes "SBX" ∷ codes "NSZ" ∷ codes "DBH" ∷ codes "DBW" ∷ codes "DBS"
    ∷ codes "BKB" ∷ codes "RDB" ∷ codes "GRB" ∷ codes "YLB" ∷ codes "BLB" ∷ codes "MGB" ∷ codes "CNB" ∷ codes "WHB"
    ∷ codes "CDY" ∷ codes "SPL" ∷ codes "STL" ∷ codes "CSI" ∷ codes "NPO" ∷ codes "IPO" ∷ codes "TRB" ∷ codes "STC" ∷ []

-- the flash modes 0 to 6: inverted, reduced, three fast phases, the next one and the one before
abbrev pub flash_names : List (List ℕ)
flash_names =
    codes "IVF" ∷ codes "RIF" ∷ codes "FF1" ∷ codes "FF2" ∷ codes "FF3" ∷ codes "ICF" ∷ codes "DCF" ∷ []

-- the designations of a set to G0 to G3
abbrev pub designation_names : List (List ℕ)
designation_names = codes "GZD4" ∷ codes "G1D4" ∷ codes "G2D4" ∷ codes "G3D4" ∷ []

-- the name of this number
abbrev pub name_of : List (List ℕ) → ℕ → List ℕ
name_of names n = slice_index_or names n []
