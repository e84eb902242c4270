use Rattle.std.proofs.Common.{◌≡◌, ◌-◌, drop, get_or, set, sym, ap, subst, length, List, [], ◌∙◌, arith}
use Rattle.std.proofs.lemmas.List.{get_or-drop, get_or_default}
use Rattle.cept_codes.specs.declared.look.Look.{Look}
use Rattle.cept_codes.specs.Table.{IsTable}
use Rattle.cept_profile.specs.RowsFromAbove.{looks_in}
use Rattle.cept_redraw.proofs.LooksWritten.{IsTable-row_set, joined_set}
use Rattle.cept_redraw.proofs.RowsOfLooks.{length-looks_in, looks_in-at}
use Rattle.cept_redraw.proofs.kept_rows.KeptRows.copy_up.Goals as goal

-- the row that is copied
copied : (c : goal.After-self-3-1) → c.copy_from.new.self ≡ looks_in c.self.inside.rows.items c.args.from
copied c =
    let items = c.self.inside.rows.items in
    c.copy_from.ensures
    ∙ get_or_default c.split_at_mut-above.result.1.now 0 c.index-below-0.result []
    (omega (
      arith,
      c.split_at_mut-above.ensures.back_len,
      c.split_at_mut-above.ensures.front_len,
      c.index.ensures,
      c.deref_mut.ensures.value,
      c.self.invariant.0.rows,
    ))
    ∙ ap (λ (l : List (List Look)). get_or l 0 []) (c.split_at_mut-above.ensures.back ∙ ap (drop c.index.result) c.deref_mut.ensures.value)
    ∙ get_or-drop c.index.result items 0 []
    ∙ ap (λ n. get_or items n []) (omega (arith, c.index.ensures))
    ∙ sym (looks_in-at items c.args.from c.self.invariant.0 (omega (arith, c.index.ensures)) (omega (arith, c.index.ensures)))

pub returns : goal.returns
returns c =
    let items = c.self.inside.rows.items in
    joined_set items c.split_at_mut-above.result.0.now c.split_at_mut-above.result.1.now c.index-2.result
    c.self.inside.rows.len c.copy_from.new.self (sym c.deref_mut.ensures.value ∙ c.split_at_mut-above.ensures.value)
    (omega (arith, c.split_at_mut-above.ensures.front_len, c.index.ensures, c.index-2.ensures, c.requires))
    (sym c.deref_mut.ensures.len ∙ ap length c.deref_mut.ensures.value)
    ∙ (λ i. set (c.self.view_is i) (c.index-2.ensures.index i) (copied c i))
    ∙ ap (λ (t : List (List Look)). set c.args.self.now (c.args.row - 1) (looks_in t c.args.from)) c.self.view_is

pub invariant_of-self : goal.invariant_of-self
invariant_of-self c =
    let items = c.self.inside.rows.items in (
      subst (λ (t : List (List Look)). IsTable t)
          (sym (joined_set items c.split_at_mut-above.result.0.now c.split_at_mut-above.result.1.now c.index-2.result
          c.self.inside.rows.len c.copy_from.new.self (sym c.deref_mut.ensures.value ∙ c.split_at_mut-above.ensures.value)
          (omega (arith, c.split_at_mut-above.ensures.front_len, c.index.ensures, c.index-2.ensures, c.requires))
          (sym c.deref_mut.ensures.len ∙ ap length c.deref_mut.ensures.value)))
          (IsTable-row_set c.self.invariant.0 c.index-2.result c.copy_from.new.self c.index-2.ensures.below
          (ap length (copied c)
          ∙ length-looks_in items c.args.from c.self.invariant.0 (omega (arith, c.index.ensures)) (omega (arith, c.index.ensures)))),
      c.self.invariant.1,
    )
