-- Items taken by a screen, one after the other, and what they say.
use Rattle.std.proofs.Common.{◌≡◌, ℕ, ◌+◌, ◌<◌, ◌≤◌, Bool, List, [], ◌∷◌, ◌++◌, length, take, drop, get_or}
use Rattle.std.proofs.Common.{refl, sym, ◌∙◌, ap, subst, arith, append_assoc, append-nil, length-append, add-one, drop-cons}
use Rattle.std.proofs.lemmas.List.{take_more}
use Rattle.std.specs.List.{AllByRecursion}
use Rattle.cept_codes.specs.declared.command.Command.{Command}
use Rattle.cept_codes.specs.declared.command.Command.TheVariants as commands
use Rattle.cept_codes.specs.declared.item.Item.{Item}
use Rattle.cept_codes.specs.declared.item.Reason.{Reason}
use Rattle.cept_codes.specs.declared.item.Said.{Said}
use Rattle.cept_codes.specs.declared.item.Said.TheVariants as said
use Rattle.cept_codes.specs.Command.{IsValidCommand}
use Rattle.cept_parser.specs.Items.{commands_of, command_said}
use Rattle.cept_profile.specs.Changes.{changes, changes_between, marked_looks}
use Rattle.cept_profile.specs.Look.{looks_of}
use Rattle.cept_profile.specs.State.{State, state, core_of}
use Rattle.cept_profile.specs.Valid.{AllValid}
use Rattle.cept_repaint.specs.Applied.{GoesOn, IsWritten}
use Rattle.cept_live.specs.declared.notice.Notice.{Notice}
use Rattle.cept_live.specs.Notices.{Saying, Refusal, change_sayings, said_sayings, item_sayings, sayings_after}
use Rattle.cept_live.specs.Live.{Stands, Tells}
use Rattle.cept_live.specs.inside.Live.{TakesItems}
use Rattle.cept_live.specs.Renewed.{marked_with}
use Rattle.cept_live.proofs.SayingsTold.{Tells-none, Tells-append, TellsMarked}
use Rattle.cept_live.proofs.SayingsTold.{marked_with-none, marked_with-append, marked_with-more}

-- ---- what items say

pub commands_of-more : (seen : List Item) (i : Item) → commands_of (seen ++ i ∷ []) ≡ commands_of seen ++ command_said i.what
commands_of-more [] i = append-nil _
commands_of-more (j ∷ seen) i = ap (λ t. command_said j.what ++ t) (commands_of-more seen i)
    ∙ sym (append_assoc (command_said j.what) (commands_of seen) (command_said i.what))

AllValid-more : (history : List Command) (command : Command) → AllValid history → IsValidCommand command
    → AllValid (history ++ command ∷ [])
AllValid-more [] command all one = (one, tt)
AllValid-more (c ∷ history) command all one = (all.0, AllValid-more history command all.1 one)

pub sayings_after-none : (seen : List Item) → sayings_after seen [] ≡ []
unfolding sayings_after
sayings_after-none seen = refl

pub sayings_after-one : (seen : List Item) (item : Item) → sayings_after seen (item ∷ []) ≡ item_sayings seen item
unfolding sayings_after
sayings_after-one seen item = append-nil _

-- what items say, and then others
pub sayings_after-append : (seen xs ys : List Item)
    → sayings_after seen (xs ++ ys) ≡ sayings_after seen xs ++ sayings_after (seen ++ xs) ys
unfolding sayings_after
sayings_after-append seen [] ys = ap (λ (l : List Item). sayings_after l ys) (sym (append-nil seen))
sayings_after-append seen (x ∷ xs) ys =
    ap (λ l. item_sayings seen x ++ l) (sayings_after-append (seen ++ x ∷ []) xs ys
    ∙ ap (λ (l : List Item). sayings_after (seen ++ x ∷ []) xs ++ sayings_after l ys) (append_assoc seen (x ∷ []) xs))
    ∙ sym (append_assoc (item_sayings seen x) (sayings_after (seen ++ x ∷ []) xs) (sayings_after (seen ++ x ∷ xs) ys))

-- ---- one item

-- the command of an item is applied
pub stands-command : (old new : State) (item : Item) (command : Command) → item.what ≡ said.Command command
    → IsValidCommand command
    → GoesOn old command new → (seen : List Item) → Stands old seen → Stands new (seen ++ item ∷ [])
stands-command old new item command is valid goes_on seen stands = record {
  valid = subst AllValid (sym more) (AllValid-more (commands_of seen) command stands.valid valid);
  is = goes_on (commands_of seen) stands.valid stands.is ∙ ap state (sym more);
}
  where
    more : commands_of (seen ++ item ∷ []) ≡ commands_of seen ++ command ∷ []
    more = commands_of-more seen item ∙ ap (λ (s : Said). commands_of seen ++ command_said s) is

-- a refusal is passed over
pub stands-refusal : (screen : State) (item : Item) (reason : Reason) → item.what ≡ said.Refused reason
    → (seen : List Item) → Stands screen seen → Stands screen (seen ++ item ∷ [])
stands-refusal screen item reason is seen stands = record {
  valid = subst AllValid (sym more) stands.valid;
  is = stands.is ∙ ap state (sym more);
}
  where
    more : commands_of (seen ++ item ∷ []) ≡ commands_of seen
    more = commands_of-more seen item ∙ ap (λ (s : Said). commands_of seen ++ command_said s) is ∙ append-nil _

-- a command is taken
pub command_taken : (old new : State) (renewed after : List Bool) (item : Item) (command : Command) (marks : List Bool)
    (begun ended : ℕ) (list now : List Notice) (from to : ℕ) → item.what ≡ said.Command command → IsValidCommand command
    → GoesOn old command new → IsWritten old command new marks begun ended → to ≤ from + 960
    → TellsMarked list from renewed (change_sayings item.at (marked_looks marks (looks_of (core_of new)))) to now after
    → TakesItems old renewed (item ∷ []) list from new after to now
command_taken old new renewed after item command marks begun ended list now from to is valid goes_on written most told =
    record {
      most = omega (arith, most);
      room = told.tells.room;
      stands = stands-command old new item command is valid goes_on;
      tells = λ seen stands. subst (λ (xs : List Saying). Tells list from xs to now) (same seen stands) told.tells;
      marks_are = λ seen stands. told.renews ∙ ap (marked_with renewed) (same seen stands);
    }
  where
    said_is : (seen : List Item) → change_sayings item.at (changes (commands_of seen) command) ≡ item_sayings seen item
    said_is seen = ap (λ (s : Said). said_sayings item (commands_of seen) s) (sym is)

    same : (seen : List Item) → Stands old seen
        → change_sayings item.at (marked_looks marks (looks_of (core_of new))) ≡ sayings_after seen (item ∷ [])
    same seen stands =
        let next : new ≡ state (commands_of seen ++ command ∷ []) = goes_on (commands_of seen) stands.valid stands.is in
        ap (λ (m : List Bool). change_sayings item.at (marked_looks m (looks_of (core_of new)))) written.marks
        ∙ ap (λ (s : State). change_sayings item.at (changes_between (looks_of (core_of s)) (looks_of (core_of new)))) stands.is
        ∙ ap (λ (s : State). change_sayings item.at (changes_between (looks_of (core_of (state (commands_of seen)))) (looks_of (core_of s))))
        next
        ∙ said_is seen ∙ sym (sayings_after-one seen item)

-- a refusal is taken
pub refusal_taken : (screen : State) (renewed : List Bool) (item : Item) (reason : Reason) (list now : List Notice) (from to : ℕ)
    → item.what ≡ said.Refused reason → to ≤ from + 960
    → Tells list from (Refusal item.at item.len reason ∷ []) to now
    → TakesItems screen renewed (item ∷ []) list from screen renewed to now
refusal_taken screen renewed item reason list now from to is most tells = record {
  most = omega (arith, most);
  room = tells.room;
  stands = stands-refusal screen item reason is;
  tells = λ seen stands. subst (λ (xs : List Saying). Tells list from xs to now) (same seen) tells;
  marks_are = λ seen stands.
      sym (marked_with-none renewed) ∙ sym (marked_with-more renewed [] (Refusal item.at item.len reason))
      ∙ ap (marked_with renewed) (same seen);
}
  where
    same : (seen : List Item) → Refusal item.at item.len reason ∷ [] ≡ sayings_after seen (item ∷ [])
    same seen = ap (λ (s : Said). said_sayings item (commands_of seen) s) (sym is) ∙ sym (sayings_after-one seen item)

-- ---- several items

-- no item
pub taken-none : (screen : State) (renewed : List Bool) (list : List Notice) (from : ℕ)
    → TakesItems screen renewed [] list from screen renewed from list
unfolding sayings_after
taken-none screen renewed list from = record {
  most = omega arith;
  room = refl;
  stands = λ seen stands. subst (Stands screen) (sym (append-nil seen)) stands;
  tells = λ seen stands. Tells-none list from;
  marks_are = λ seen stands. sym (marked_with-none renewed);
}

-- items, and then others
pub taken-append : (old mid new : State) (renewed between after : List Bool) (xs ys : List Item) (list part now : List Notice)
    (from at to : ℕ) → TakesItems old renewed xs list from mid between at part
    → TakesItems mid between ys part at new after to now → TakesItems old renewed (xs ++ ys) list from new after to now
taken-append old mid new renewed between after xs ys list part now from at to first second = record {
  most = omega (arith, first.most, second.most, length-append xs ys);
  room = second.room ∙ first.room;
  stands = λ seen stands. subst (Stands new) (append_assoc seen xs ys) (second.stands (seen ++ xs) (first.stands seen stands));
  tells = λ seen stands.
      subst (λ (l : List Saying). Tells list from l to now) (sym (sayings_after-append seen xs ys))
      (Tells-append list part now from to at _ _ (first.tells seen stands) (second.tells (seen ++ xs) (first.stands seen stands)));
  marks_are = λ seen stands.
      second.marks_are (seen ++ xs) (first.stands seen stands)
      ∙ ap (λ (m : List Bool). marked_with m (sayings_after (seen ++ xs) ys)) (first.marks_are seen stands)
      ∙ sym (marked_with-append renewed (sayings_after seen xs) (sayings_after (seen ++ xs) ys))
      ∙ ap (marked_with renewed) (sym (sayings_after-append seen xs ys));
}

-- the items so far, and one more
pub taken-next : (old mid new : State) (renewed between after : List Bool) (xs : List Item) (i : ℕ) (d : Item)
    (list part now : List Notice) (from at to : ℕ) → i < length xs
    → TakesItems old renewed (take i xs) list from mid between at part
    → TakesItems mid between (get_or xs i d ∷ []) part at new after to now
    → TakesItems old renewed (take (i + 1) xs) list from new after to now
taken-next old mid new renewed between after xs i d list part now from at to h first second =
    subst (λ (l : List Item). TakesItems old renewed l list from new after to now) (sym (take_more xs i d h))
    (taken-append old mid new renewed between after (take i xs) (get_or xs i d ∷ []) list part now from at to first second)

-- what holds of all that is left holds of the next one and of the rest
AllByRecursion-next : {X : Type 0} (P : X → Type 0) (xs : List X) (i : ℕ) (d : X) → i < length xs
    → AllByRecursion P (drop i xs) → P (get_or xs i d) × AllByRecursion P (drop (i + 1) xs)
AllByRecursion-next P xs i d h all =
    let split : drop i xs ≡ get_or xs i d ∷ drop (i + 1) xs = rw add-one (drop-cons xs i d h) in
    let parts = subst (AllByRecursion P) split all in
    (parts.0, parts.1)

-- what fills the unused room of a list of items
abbrev spare : Item
spare = record { at = 0; len = 0; what = said.Command commands.Nul }

pub AllByRecursion-rest : (P : Item → Type 0) (xs : List Item) (i : ℕ) → i < length xs
    → AllByRecursion P (drop i xs) → AllByRecursion P (drop (i + 1) xs)
AllByRecursion-rest P xs i h all = (AllByRecursion-next P xs i spare h all).1
