-- Another control with the settings of a page: what is kept of the page is kept of it.
use Rattle.std.proofs.Common.{◌≡◌, ◌<◌, List, ap, sym, subst, ◌∙◌}
use Rattle.cept_codes.specs.declared.look.Look.{Look}
use Rattle.cept_profile.specs.Control.{ControlState}
use Rattle.cept_profile.specs.Look.{looks_of}
use Rattle.cept_profile.specs.State.{Core, Page, State, core_of}
use Rattle.cept_profile.specs.Valid.{IsValidControl, IsValidState}
use Rattle.cept_redraw.specs.Named.{AreNamed, NamesOfRows}
use Rattle.cept_repaint.specs.Kept.{state_of_parts, IsKept}

-- a state with the same core is valid where its control is
IsValidState-same_core : (p : Page) (own other : ControlState) → IsValidControl other → other.rows ≡ own.rows
    → IsValidState (state_of_parts p own) → IsValidState (state_of_parts p other)
IsValidState-same_core p own other valid rows is = record {
  page = is.page;
  control = valid;
  past = λ r c on beyond. is.past r c on (subst (λ n. n < r) rows beyond);
  unset = λ r from to beyond. is.unset r from to (subst (λ n. n < r) rows beyond);
}

pub IsKept-same_core : (p : Page) (own other : ControlState) (kept : List (List Look)) (names : NamesOfRows)
    → IsValidControl other → core_of (state_of_parts p other) ≡ core_of (state_of_parts p own)
    → IsKept (state_of_parts p own) kept names → IsKept (state_of_parts p other) kept names
IsKept-same_core p own other kept names valid same is = record {
  valid = IsValidState-same_core p own other valid (ap (λ (k : Core). k.rows) same) is.valid;
  looks = is.looks ∙ ap looks_of (sym same);
  named = subst (λ (k : Core). AreNamed names k) (sym same) is.named;
}

pub settings_differ : (s : State) (p : Page) (own other : ControlState) → s ≡ state_of_parts p own
    → ((q : Page) → core_of (state_of_parts q other) ≡ core_of (state_of_parts q own) → ⊥)
    → core_of (state_of_parts s.page other) ≡ core_of s → ⊥
settings_differ s p own other is differ same =
    differ s.page
    (same ∙ ap core_of is ∙ ap (λ (q : Page). core_of (state_of_parts q own)) (sym (ap (λ (t : State). t.page) is)))
