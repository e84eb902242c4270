-- The machine values of a block and of the parts of a box: what is owned tells them.
use Rattle.std.proofs.Common.{◌≡◌, ℕ, zero, suc, List, [], ◌∷◌, ◌++◌, refl, ◌∙◌, lit<}
use lib.Dec.{T}
use seplogic.Ra.Ura.{Ura}
use mir.Syntax.{Ty, ty_ptr, ty_struct, tcons, tnil}
use mir.Val.{Val, vstruct, vcons, vnil, of_list, has_ty, WT}
use base.Logic.{ent, emp}
use base.Fml.{Fml}
use types.Logic.{Logic, sem}
use types.Kit.{Item, Goal, Step, step, ‵, ◌$◌, move, fjoin, feq_i, fpack}
use denote.RattleType.{RattleType, Valss}
use denote.Builtin.{unit}
use denote.RawPtr.{Ptr, RawPtr, block_ptr, null_ptr, ptr_val}
use denote.Signature.{Slot, plain}
use denote.Shadow.{shadow, makes_shadow}
use denote.Steps.{nothing}
use denote.Struct.Struct.{Struct, within}
use Rattle.std.specs.contracts.alloc.Global as heap
use Rattle.std.proofs.Handle.{heap_val, heap_Tells}

-- a struct by its fields alone: what it owns does not read its name
abbrev pub plainly : List RattleType → RattleType
plainly Rs = Struct (record { name = []; args = []; types = []; fields = Rs })

abbrev pub slot_at : {n : ℕ} → ℕ → List (Slot n) → Slot n
slot_at k [] = plain (λ _. unit)
slot_at zero (s ∷ ss) = s
slot_at (suc k) (s ∷ ss) = slot_at k ss

pub ptr_typed : (p : Ptr) → T (has_ty ty_ptr (ptr_val p)) × WT (ptr_val p)
ptr_typed (block_ptr b o) = (tt, tt)
ptr_typed null_ptr = (tt, record { fits = lit< tt })

-- ---- a block

abbrev pub block_val : Ptr → Val
block_val p = vstruct (vcons (ptr_val p) vnil)

abbrev pub block_own : Ptr → List Val → Fml
block_own p = (plainly (RawPtr ∷ [])).own_val (p, tt)

pub block_told : (p : Ptr) (vs : List Val) → shadow (block_own p vs) → vs ≡ block_val p ∷ []
block_told p vs s = s.1.0 ∙ (λ i. vstruct (of_list (s.1.1.0 i ++ [])) ∷ [])

pub block_made : {M : Type 1} {𝓤 : Ura M} (𝓛 : Logic 𝓤) (p : Ptr) → ent 𝓤 (emp 𝓤) (sem 𝓛 (block_own p (block_val p ∷ [])))
block_made 𝓛 p = makes_shadow 𝓛 (block_own p (block_val p ∷ [])) (λ _. (tt, (tt, tt))) ((ptr_val p ∷ [], tt), (refl, (refl, tt)))

pub block_typed : (p : Ptr) → T (has_ty (ty_struct [] (tcons ty_ptr tnil)) (block_val p)) × WT (block_val p)
block_typed (block_ptr b o) = (tt, (tt, tt))
block_typed null_ptr = (tt, (record { fits = lit< tt }, tt))

-- ---- the parts of a box

abbrev pub parts_val : Ptr → Val
parts_val p = vstruct (vcons (ptr_val p) (vcons heap_val vnil))

abbrev pub parts_own : Ptr → (heap.the_row).Denot → List Val → Fml
parts_own p a = (plainly (RawPtr ∷ heap.the_row ∷ [])).own_val (p, (a, tt))

pub parts_told : (p : Ptr) (a : (heap.the_row).Denot) (vs : List Val) → shadow (parts_own p a vs) → vs ≡ parts_val p ∷ []
parts_told p a vs s = s.1.0 ∙ (λ i. vstruct (of_list (s.1.1.0 i ++ (heap_Tells a _ s.1.1.1.0 i ++ []))) ∷ [])

pub parts_typed : (p : Ptr)
    → T (has_ty (ty_struct [] (tcons ty_ptr (tcons (ty_struct [] (tcons (ty_struct [] (tcons mir.Syntax.ty_unit tnil)) tnil)) tnil)))
    (parts_val p)) × WT (parts_val p)
parts_typed (block_ptr b o) = (tt, (tt, (((tt, tt), tt), tt)))
parts_typed null_ptr = (tt, (record { fits = lit< tt }, (((tt, tt), tt), tt)))

pub heap_typed : T (has_ty (ty_struct [] (tcons (ty_struct [] (tcons mir.Syntax.ty_unit tnil)) tnil)) heap_val) × WT heap_val
heap_typed = (tt, ((tt, tt), tt))

module _ {M : Type 1} {𝓤 : Ura M} {𝓛 : Logic 𝓤} {K : Type 0} {Γ : List (Item 𝓤)} {G : Goal 𝓤 𝓛.H} where
  pub parts_in : K → (p : Ptr) (a : (heap.the_row).Denot)
      → Step K 𝓛 (‵ (parts_own p a (parts_val p ∷ [])) ∷ Γ) G (‵ ((heap.the_row).own_val a (heap_val ∷ [])) ∷ Γ) G
  parts_in t p a = step (λ s.
      nothing t $ move t (1 ∷ 0 ∷ []) $ fjoin t $ feq_i t (List Val) (ptr_val p ∷ []) (ptr_val p ∷ []) refl $ fjoin t $
      feq_i t (List Val) (parts_val p ∷ []) (parts_val p ∷ []) refl $ fjoin t $
      fpack t (Valss (RawPtr ∷ heap.the_row ∷ [])) (within (record { name = []; args = []; types = []; fields = RawPtr ∷ heap.the_row ∷ [] }) (p, (a, tt))
      (parts_val p ∷ [])) (ptr_val p ∷ [], (heap_val ∷ [], tt)) $ s)
