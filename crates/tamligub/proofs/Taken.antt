-- What is taken out where something is open.
use Rattle.std.proofs.Common.{◌≡◌, Bool, true, false, cond, Some, None, refl}
use Rattle.std.proofs.lemmas.Option.{same_Some}

pub taken : {X : Type 0} (is_open : Bool) (out inside : X) → Some out ≡ cond is_open (Some inside) None
    → (is_open ≡ true) × (out ≡ inside)
taken true out inside e = (refl, same_Some out inside e)
taken false out inside e = cc
