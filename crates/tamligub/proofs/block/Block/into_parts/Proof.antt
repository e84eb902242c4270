-- `into_parts`: the pointer is copied, and the parts own what the block owned.
use Rattle.std.proofs.Common.{◌≡◌, List, [], ◌∷◌, ◌++◌, Bool, true, refl}
use mir.Syntax.{Fn}
use mir.Val.{Val}
use base.Logic.{SProp, emp}
use prog.Wp.{WpFn}
use contract.Monad.{fact, fact_i}
use contract.Running.{tables}
use types.Kit.{‵, raw, ◌⊛◌, prop, ◌$◌, ◌∵◌, !, qed, by, move, drop, use0, split, rewrite, regoal, fsplit, fjoin}
use types.Part.{whole, sub, agg}
use types.Run.{stop, fld, of_opd, no_more, and_then, returns, enter}
use types.ByLocal.{alloc_all, pass_all, free_all, look_at, get, get_in, sets}
use denote.RattleType.{owns}
use denote.Signature.{types_at}
use denote.Steps.{nothing, heard}
use denote.Triple.Entry.{alive}
use denote.Triple.Walked.{Stays, stay_dropped, walk_of, Goes-dropped}
use Rattle.std.proofs.alloc.Calls.{Goes-blank}
use Rattle.std.proofs.raw_atomic.Walks.{proved_at, leaves}
use Rattle.std.specs.contracts.alloc.Global as heap
use Rattle.std.proofs.Handle.{heap_val, heap_Tells}
use Rattle.tamligub.specs.Owned.{held_owns}
use Rattle.tamligub.proofs.BlockValues.{slot_at, ptr_typed, block_val, block_told, block_typed, heap_typed, parts_val, parts_in, parts_typed}
use Rattle.tamligub.specs.contracts.block.Block.into_parts.{ended, clauses}
use Rattle.tamligub.specs.contracts.block.Block.into_parts.Key.{name as #self}
use Rattle.tamligub.proofs.block.Block.into_parts.Statement.{statement}
use Rattle.tamligub.proofs.block.Block.into_parts.Code as compiled

pub into_parts_spec : {M : Type 1} → statement M
into_parts_spec 𝓤 𝓛 𝓜 𝓡 wired =
    let H = 𝓛.H in
    let fn : Fn = compiled.function in
    let stays : Stays ended.signature.params ended.kept =
    (stay_dropped (slot_at 0 ended.signature.params) ended.kept.0, (stay_dropped (slot_at 1 ended.signature.params) ended.kept.1.0, tt)) in
    let c = clauses 𝓛 𝓜.mem 𝓡.returns in
    let C = (tables 𝓤 H 𝓜 𝓡 𝓡.env).C in
    let Λ = (tables 𝓤 H 𝓜 𝓡 𝓡.env).Λ in
    proved_at 𝓛 ended stays c 𝓜 𝓡 (
      Goes-blank 𝓛 0 (slot_at 0 ended.signature.params) ended.kept.0 (λ κs x f. tt),
      (
        Goes-dropped 𝓛 0 (slot_at 1
            ended.signature.params) ended.kept.1.0 (λ κs x f. refl),
        tt,
      ),
    ) #self fn (compiled.unfolded 𝓤 H 𝓜 𝓡 wired) (λ z are.
    let Post : Val → SProp 𝓤 = (walk_of 𝓛 ended stays c).post z in
    let x = z.0.3.0 in
    let a = z.0.3.1.0 in
    let vss = z.0.4 in
    qed 𝓛 ((raw (alive 𝓛 ended.signature z.0.0 z.0.1) ⊛ ‵ (owns (types_at ended.signature.params z.0.0) z.0.3 vss)) ∷ raw (fact 𝓤 (x.held ≡ true))
    ∷ []) ∵ move ! (1 ∷ []) $ heard ! (x.held ≡ true) (λ e. split ! $ move ! (1 ∷ []) $
    fsplit ! $ fsplit ! $ drop ! $ rewrite ! 0 (λ (b : Bool). ‵ (held_owns b x.at x.value)) e refl $
    move ! (1 ∷ []) $ fsplit ! $ rewrite ! 0 (λ (us : List Val). ‵ ((heap.the_row).own_val a us)) (heap_Tells a vss.1.0 are.1.0) refl $ move ! (1 ∷ []) $
    drop ! $
    -- [the heap's handle; what the block owns; the tokens]
    regoal ! (λ (us : List Val). prop (WpFn 𝓤 H C Λ fn us Post)) (λ i. block_told x.at vss.0 are.0.0 i ++ (heap_Tells a vss.1.0 are.1.0 i ++ [])) refl $
    enter ! C Λ fn (block_val x.at ∷ heap_val ∷ []) Post $
    alloc_all ! (λ l. pass_all ! refl (block_typed x.at, (heap_typed, tt)) $
    sets ! (of_opd ! (get_in ! (fld ! refl (stop !)) (sub ! 0 refl (whole !)))) refl (ptr_typed x.at) $
    sets ! (of_opd ! (get ! refl)) refl (ptr_typed x.at) $
    sets ! (agg ! (and_then ! (get ! refl) (and_then ! (get ! refl) (no_more !)))) refl (parts_typed x.at) $
    returns ! (look_at ! 0 refl) $ free_all ! refl $
    parts_in ! x.at a $ fjoin ! $
    use0 𝓛 (raw (fact 𝓤 (x.value ≡ x.value))) (fact_i 𝓤 (x.value ≡ x.value) (emp 𝓤) refl) $ nothing ! $ nothing ! $ fjoin ! $ nothing ! $ fjoin ! $
    move ! (3 ∷ 0 ∷ 2 ∷ 1 ∷ []) $
    by ! (leaves 𝓛 ended stays c z (parts_val x.at) (record { ptr = x.at; alloc = a; value = x.value }) (tt, (tt, tt)) (tt, (tt, tt))))))
