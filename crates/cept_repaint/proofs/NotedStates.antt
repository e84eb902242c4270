-- What is noted before a command leaves the state to which it unwinds.
use Rattle.std.proofs.Common.{◌≡◌, Option, Some, None, unwrap_or, refl, ap, ◌∙◌}
use Rattle.std.specs.Prelude.{option_map}
use Rattle.cept_profile.specs.Control.{ControlState}
use Rattle.cept_profile.specs.OldValues.{OldValues, first_noted, page_unwound, unwound, with_control}
use Rattle.cept_profile.specs.State.{Page, State}
use Rattle.cept_page.specs.Behind.{PageBehind, page_behind}
use Rattle.cept_repaint.specs.inside.StateBehind.{state_behind}

abbrev behind_with : Page → Option ControlState → PageBehind
behind_with p k = record { page = p; control = k }

-- a control that is noted comes back in place of any other
control_back : (noted : Option ControlState) (was now : ControlState)
    → unwrap_or (first_noted noted was) now ≡ unwrap_or noted was
control_back None was now = refl
control_back (Some first) was now = refl

same_value : {X : Type 0} {x y : X} → Some x ≡ Some y → x ≡ y
same_value same = cc

-- the control is noted first: to what the page unwinds stays, and so does the state
pub state_behind-control : (before first after : Option OldValues) (s t : State)
    → first ≡ option_map (with_control s.control) before → page_behind after t.page ≡ page_behind first s.page
    → state_behind after t ≡ state_behind before s
unfolding page_behind state_behind
state_behind-control None first None s t noted behind = refl
state_behind-control None first (Some new) s t noted behind = absurd (cc)
state_behind-control (Some old) first None s t noted behind = absurd (cc)
state_behind-control (Some old) first (Some new) s t noted behind =
    let same : behind_with (page_unwound t.page new) new.control
    ≡ behind_with (page_unwound s.page old) (first_noted old.control s.control) =
    same_value (behind ∙ ap (λ o. page_behind o s.page) noted) in
    let page : page_unwound t.page new ≡ page_unwound s.page old = ap (λ (b : PageBehind). b.page) same in
    let control : new.control ≡ first_noted old.control s.control = ap (λ (b : PageBehind). b.control) same in
    λ i. Some (record {
      page = page i;
      control = (ap (λ (k : Option ControlState). unwrap_or k t.control) control
          ∙ control_back old.control s.control t.control) i;
    })

-- the same, where values may be noted
pub unwound-behind : (new old : OldValues) (s t : State) → state_behind (Some new) t ≡ state_behind (Some old) s
    → unwound t new ≡ unwound s old
unfolding state_behind
unwound-behind new old s t behind = cc
