-- Two choices by one test, and what holds of both.
use Rattle.std.proofs.Common.{◌≡◌, Bool, true, false, cond, refl}
use Rattle.cept_parser.specs.Bytes.{Table}

-- a fact holds of a choice where it holds of both branches
pub each_test : {A : Type 0} (P : A → Type 0) (b : Bool) {p q : A} → (b ≡ true → P p) → (b ≡ false → P q)
    → P (cond b p q)
each_test P true t f = t refl
each_test P false t f = f refl

-- the same of tables
pub each_table : (P : Table → Type 0) (b : Bool) {F G : Table} → (b ≡ true → P F) → (b ≡ false → P G)
    → P (λ u. cond b (F u) (G u))
each_table P true t f = t refl
each_table P false t f = f refl
