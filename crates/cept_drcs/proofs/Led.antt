-- A loader stands where bytes led it: one byte more, and its pattern.
use Rattle.std.proofs.Common.{◌≡◌, ℕ, cond, true, List, [], ◌∷◌, ◌++◌, sym, subst, ◌∙◌, inl, inr}
use Rattle.std.proofs.lemmas.Bool.{cases_Bool, cond-true, cond-false}
use Rattle.cept_codes.specs.Command.{IsValidForm}
use Rattle.cept_codes.specs.Look.{IsValidPattern}
use Rattle.cept_codes.specs.declared.command.Form.{Form}
use Rattle.cept_codes.specs.declared.look.Pattern.{Pattern}
use Rattle.cept_drcs.specs.Loading.{Loading, Leads, IsLed, fresh, takes, loading_after, all_lines}
use Rattle.cept_drcs.specs.Unit.{lines_from}
use Rattle.cept_drcs.specs.Loading.{pattern_of}
use Rattle.cept_drcs.proofs.Numbers.{loading_after-form}
use Rattle.cept_drcs.proofs.Laws.{leads_none, leads_more, pattern_led, led_valid}

pub leads_begin : (f : Form) (l : Loading) → IsValidForm f → l ≡ fresh f → Leads f [] l
leads_begin f l v e = subst (λ (m : Loading). Leads f [] m) (sym e) (leads_none f v)

pub led_begin : (f : Form) (l : Loading) → IsValidForm f → l ≡ fresh f → IsLed l
led_begin f l v e =
    let led : IsLed (fresh f) = record { bytes = []; leads = leads_none f v } in
    subst (λ (m : Loading). IsLed m) (sym e) led

-- a byte that is taken leads on
pub leads_on : (f : Form) (u : List ℕ) (l new : Loading) (a : ℕ) → Leads f u l → takes l a ≡ true
    → new ≡ cond (takes l a) (loading_after l a) l → Leads f (u ++ a ∷ []) new
leads_on f u l new a k t e =
    subst (λ (m : Loading). Leads f (u ++ a ∷ []) m) (sym (e ∙ cond-true (takes l a) (loading_after l a) l t))
    (leads_more f u l a k t)

loading_after-led : (l : Loading) (a : ℕ) → IsLed l → takes l a ≡ true → IsLed (loading_after l a)
loading_after-led l a k t = record {
  bytes = k.bytes ++ a ∷ [];
  leads = subst (λ (f : Form). Leads f (k.bytes ++ a ∷ []) (loading_after l a)) (sym (loading_after-form l a))
      (leads_more l.form k.bytes l a k.leads t);
}

pub led_on : (l new : Loading) (a : ℕ) → IsLed l → new ≡ cond (takes l a) (loading_after l a) l → IsLed new
led_on l new a k e =
    elim (cases_Bool (takes l a)) [
      | inl t ↦ subst (λ (m : Loading). IsLed m) (sym (e ∙ cond-true (takes l a) (loading_after l a) l t)) (loading_after-led l a k t)
      | inr n ↦ subst (λ (m : Loading). IsLed m) (sym (e ∙ cond-false (takes l a) (loading_after l a) l n)) k
    ]

pub pattern_valid : (l : Loading) (p : Pattern) → IsLed l
    → p ≡ pattern_of l.form (lines_from l.form.w 0 (all_lines l)) → IsValidPattern p
pattern_valid l p k e =
    subst (λ (q : Pattern). IsValidPattern q) (sym (e ∙ pattern_led l.form k.bytes l k.leads))
    (led_valid l.form k.bytes l k.leads)
