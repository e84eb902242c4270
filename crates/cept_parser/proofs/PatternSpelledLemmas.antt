-- The spelling of a pattern is a whole unit of its run that says it, and no byte fits after it.
use Rattle.std.proofs.Common.{◌≡◌, ℕ, ◌≤◌, true, false, List, ◌∷◌}
use Rattle.std.proofs.Common.{refl, sym, ap, ◌∙◌, subst, arith}
use Rattle.std.proofs.lemmas.Bool.{lt-ltb}
use Rattle.cept_codes.specs.declared.command.Command.TheVariants as command
use Rattle.cept_codes.specs.declared.command.Form.{Form}
use Rattle.cept_codes.specs.declared.look.Pattern.{Pattern}
use Rattle.cept_codes.specs.Command.{IsValidForm}
use Rattle.cept_codes.specs.Look.{IsValidPattern}
use Rattle.cept_drcs.specs.Unit.{is_pattern, pattern, pattern_grows}
use Rattle.cept_drcs.proofs.Laws.{starts}
use Rattle.cept_parser.specs.declared.context.Mode.TheVariants.{DrcsRun}
use Rattle.cept_parser.specs.declared.context.Context.{Context}
use Rattle.cept_parser.specs.Spelling.{form_of, pattern_bytes, spelling, context_after}
use Rattle.cept_parser.specs.Waits.{in_pattern}
use Rattle.cept_parser.proofs.PatternLemmas.{IsPatternRun, pattern_run}
use Rattle.cept_parser.proofs.SpelledLemmas.{Stands}
use Rattle.cept_parser.proofs.WrittenPatternLemmas.{written_is, written_ends, written_back, written_begins, form_valid}
use Rattle.cept_parser.proofs.WrittenPatternLemmas.{after_first}

-- a byte 3/0 begins a pattern in its run
run_begins : (x : Context) (c : ℕ) (u : List ℕ) → x.mode ≡ DrcsRun c → IsValidForm x.form → c ≤ 0x7E
    → in_pattern x (0x30 ∷ u) ≡ true
run_begins x c u e v l = rw (e, lt-ltb c 0x7F (omega arith), starts x.form 0x30 v) refl

written_run : (x : Context) (c : ℕ) (t : Pattern) → x.mode ≡ DrcsRun c → x.form ≡ form_of t → c ≤ 0x7E
    → IsValidPattern t → IsPatternRun x (pattern_bytes t)
written_run x c t e f l v =
    pattern_run x (pattern_bytes t)
    (subst (λ (u : List ℕ). in_pattern x u ≡ true) (sym (written_begins t v))
    (run_begins x c (after_first t) e (subst IsValidForm (sym f) (form_valid t v)) l))

same_code : (x : Context) (c d : ℕ) → x.mode ≡ DrcsRun c → x.mode ≡ DrcsRun d → d ≡ c
same_code x c d e f = let s : DrcsRun d ≡ DrcsRun c = sym f ∙ e in cc

pub pattern_spelled : (x : Context) (c : ℕ) (t : Pattern) → x.mode ≡ DrcsRun c → x.form ≡ form_of t → c ≤ 0x7E
    → IsValidPattern t → Stands x (command.DrcsPattern c t)
unfolding spelling context_after
pattern_spelled x c t e f l v =
    let r = written_run x c t e f l v in
    let is : is_pattern x.form (pattern_bytes t) ≡ true =
    ap (λ (g : Form). is_pattern g (pattern_bytes t)) f ∙ written_is t v in
    let back : pattern x.form (pattern_bytes t) ≡ t =
    ap (λ (g : Form). pattern g (pattern_bytes t)) f ∙ written_back t v in
    let ends : pattern_grows x.form (pattern_bytes t) ≡ false =
    ap (λ (g : Form). pattern_grows g (pattern_bytes t)) f ∙ written_ends t v in
    let code : r.code ≡ c = same_code x c r.code e r.mode in
    rw (r.stands, is, ends, back, code) refl
