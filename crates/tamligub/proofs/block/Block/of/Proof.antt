-- `of`: the pointer is copied, and the block owns what the parts owned.
use Rattle.std.proofs.Common.{◌≡◌, List, [], ◌∷◌, ◌++◌, true, refl}
use mir.Syntax.{Fn}
use mir.Val.{Val}
use base.Logic.{SProp, emp}
use base.Fml.{ftrue}
use prog.Wp.{WpFn}
use contract.Monad.{fact, fact_i}
use contract.Running.{tables}
use types.Kit.{‵, raw, ◌⊛◌, prop, ◌$◌, ◌∵◌, !, qed, by, move, drop, use0, split, regoal, fsplit, fjoin}
use types.Part.{whole, sub, agg}
use types.Run.{stop, fld, of_opd, no_more, and_then, returns, enter}
use types.ByLocal.{alloc_all, pass_all, free_all, look_at, get, get_in, sets}
use denote.RattleType.{owns}
use denote.Signature.{types_at}
use denote.Steps.{nothing}
use denote.Triple.Entry.{alive}
use denote.Triple.Walked.{Stays, stay_dropped, walk_of}
use Rattle.std.proofs.alloc.Calls.{Goes-blank}
use Rattle.std.proofs.raw_atomic.Walks.{proved_at, leaves}
use Rattle.tamligub.proofs.BlockValues.{slot_at, ptr_typed, block_val, block_own, block_made, block_typed, parts_val, parts_told, parts_typed}
use Rattle.tamligub.specs.contracts.block.Block.of.{ended, clauses}
use Rattle.tamligub.specs.contracts.block.Block.of.Key.{name as #self}
use Rattle.tamligub.proofs.block.Block.of.Statement.{statement}
use Rattle.tamligub.proofs.block.Block.of.Code as compiled

pub of_spec : {M : Type 1} → statement M
of_spec 𝓤 𝓛 𝓜 𝓡 wired =
    let H = 𝓛.H in
    let fn : Fn = compiled.function in
    let stays : Stays ended.signature.params ended.kept = (stay_dropped (slot_at 0 ended.signature.params) ended.kept.0, tt) in
    let c = clauses 𝓛 𝓜.mem 𝓡.returns in
    let C = (tables 𝓤 H 𝓜 𝓡 𝓡.env).C in
    let Λ = (tables 𝓤 H 𝓜 𝓡 𝓡.env).Λ in
    proved_at 𝓛 ended stays c 𝓜 𝓡 (Goes-blank 𝓛 0 (slot_at 0 ended.signature.params) ended.kept.0 (λ κs x f. tt), tt) #self fn (compiled.unfolded 𝓤 H 𝓜 𝓡
    wired) (λ z are.
    let Post : Val → SProp 𝓤 = (walk_of 𝓛 ended stays c).post z in
    let x = z.0.3.0 in
    let vss = z.0.4 in
    qed 𝓛 ((raw (alive 𝓛 ended.signature z.0.0 z.0.1) ⊛ ‵ (owns (types_at ended.signature.params z.0.0) z.0.3 vss)) ∷ ‵ ftrue ∷ []) ∵ move ! (1 ∷ []) $
    drop ! $ split ! $ move ! (1 ∷ []) $
    fsplit ! $ fsplit ! $ drop ! $ move ! (1 ∷ []) $ drop ! $
    -- [what the block of the box owns; the tokens]
    regoal ! (λ (us : List Val). prop (WpFn 𝓤 H C Λ fn us Post)) (λ i. parts_told x.ptr x.alloc vss.0 are.0.0 i ++ []) refl $
    enter ! C Λ fn (parts_val x.ptr ∷ []) Post $
    alloc_all ! (λ l. pass_all ! refl (parts_typed x.ptr, tt) $
    sets ! (of_opd ! (get_in ! (fld ! refl (stop !)) (sub ! 0 refl (whole !)))) refl (ptr_typed x.ptr) $
    sets ! (of_opd ! (get ! refl)) refl (ptr_typed x.ptr) $
    sets ! (agg ! (and_then ! (get ! refl) (no_more !))) refl (block_typed x.ptr) $
    returns ! (look_at ! 0 refl) $ free_all ! refl $
    use0 𝓛 (‵ (block_own x.ptr (block_val x.ptr ∷ []))) (block_made 𝓛 x.ptr) $ fjoin ! $
    use0 𝓛 (raw (fact 𝓤 ((true ≡ true) × (x.value ≡ x.value)))) (fact_i 𝓤 ((true ≡ true) × (x.value ≡ x.value)) (emp 𝓤) (refl, refl)) $ nothing ! $
    nothing ! $ fjoin ! $ move ! (3 ∷ 0 ∷ 2 ∷ 1 ∷ []) $
    by ! (leaves 𝓛 ended stays c z (block_val x.ptr) (record { at = x.ptr; held = true; value = x.value }) (tt, tt) (tt, tt))))
