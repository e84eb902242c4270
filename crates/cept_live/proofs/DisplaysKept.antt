-- A display that is kept as it is told shows what is shown.
use Rattle.std.proofs.Common.{◌≡◌, ℕ, zero, suc, ◌+◌, ◌/◌, ◌%◌, ◌<◌, ◌≤◌, Bool, true, false, ◌||◌, cond, eqb, Option, Some, None, List, [], ◌∷◌, ◌++◌}
use Rattle.std.proofs.Common.{length, map, set, refl, sym, ◌∙◌, ap, arith, inl, inr, eq-eqb, append-nil, append_assoc}
use Rattle.std.proofs.lemmas.Bool.{and_from, and_parts, cases_eq, eqb-true, false_from_ne_true, true≢false}
use Rattle.std.proofs.lemmas.Grind.{flat_map-append}
use Rattle.std.proofs.lemmas.List.{append_cancel_left, get_or-replicate, get_or-set_other, get_or-set_same, length-set}
use Rattle.std.specs.List.{filter, range_with_len}
use Rattle.cept_codes.specs.declared.command.Command.{Command}
use Rattle.cept_codes.specs.declared.item.Item.{Item}
use Rattle.cept_codes.specs.declared.item.Said.{Said}
use Rattle.cept_codes.specs.declared.item.Said.TheVariants as said
use Rattle.cept_codes.specs.declared.look.Look.{Look}
use Rattle.cept_codes.specs.Look.{blank_look}
use Rattle.cept_codes.specs.Place.{OnScreen, Place, number, place_of}
use Rattle.cept_codes.specs.Table.{IsTable, table, value_at}
use Rattle.cept_codes.proofs.Laws.{IsTable-table, number-lt, number-place_of, place_of-number, same_table, same_tables, table-value_at, value_at-table}
use Rattle.cept_editor.specs.Events.{paints}
use Rattle.cept_editor.specs.Kept.{EditorState, KeptEdits, StandsAfter}
use Rattle.cept_editor.specs.Meaning.{Step}
use Rattle.cept_editor.specs.Stepping.{line_events}
use Rattle.cept_editor.proofs.Laws.{line_shown}
use Rattle.cept_flash.specs.Phases.{frame, look_at_phase}
use Rattle.cept_parser.specs.Items.{closed_items, command_said, commands_of, items}
use Rattle.cept_profile.specs.Cells.{is_at}
use Rattle.cept_profile.specs.Changes.{changes, changes_between, differences, grid_with_paint, grid_with_paints, look_at, marked_looks}
use Rattle.cept_profile.specs.Look.{grid, looks_of}
use Rattle.cept_profile.specs.State.{State, core_of, state}
use Rattle.cept_profile.proofs.Laws.{grid-none, grid_with_paints-append, grid_with_paints-changes_between}
use Rattle.cept_redraw.specs.Marks.{is_marked, no_marks}
use Rattle.cept_live.specs.declared.notice.Notice.{Notice}
use Rattle.cept_live.specs.EditLines.{MakesLine, editor_of, sayings_once}
use Rattle.cept_live.specs.Live.{LiveState, live_start, Stands, HasFed, TellsItems, Feeds, Ends}
use Rattle.cept_live.specs.Notices.{change_sayings, item_sayings, said_sayings, sayings_after}
use Rattle.cept_live.specs.Renewed.{marked_with}
use Rattle.cept_live.specs.Shown.{Begins, look_said, look_shown, looks_said, shown, shown_of}
use Rattle.cept_live.proofs.BytesFed.{length-no_marks}
use Rattle.cept_live.proofs.ItemsTaken.{commands_of-more}
use Rattle.cept_live.proofs.SayingsTold.{length-marked_with, marked_with-append}

-- ---- painting places, by their numbers

-- the place with this number, with its look
abbrev entry : List (List Look) → ℕ → Place × Look
entry h n = (place_of n, look_at h (place_of n))

-- one of the numbers is this one
abbrev has : List ℕ → ℕ → Bool
has [] n = false
has (k ∷ ks) n = eqb k n || has ks n

IsTable-grid_with_paints : (g : List (List Look)) (xs : List (Place × Look)) → IsTable g → IsTable (grid_with_paints g xs)
unfolding grid_with_paints
IsTable-grid_with_paints g [] is = is
IsTable-grid_with_paints g (x ∷ xs) is =
    IsTable-grid_with_paints (grid_with_paint g x.0 x.1) xs
    (IsTable-table (λ r c. cond (is_at x.0 r c) x.1 (value_at blank_look g r c)))

-- the place with this number is that of row r and column c exactly where the number is
is_at-number : (n r c : ℕ) → OnScreen r c → is_at (place_of n) r c ≡ eqb n (number r c)
is_at-number n r c on = elim (cases_eq n (number r c)) [
  | inl same ↦
      and_from (eqb (n / 40 + 1) r) (eqb (n % 40 + 1) c) (eq-eqb (n / 40 + 1) r (omega arith))
      (eq-eqb (n % 40 + 1) c (omega arith))
      ∙ sym (eq-eqb n (number r c) same)
  | inr other ↦
      false_from_ne_true (is_at (place_of n) r c) (λ e.
      let both = and_parts (eqb (n / 40 + 1) r) (eqb (n % 40 + 1) c) e in
      let row : n / 40 + 1 ≡ r = eqb-true (n / 40 + 1) r both.0 in
      let column : n % 40 + 1 ≡ c = eqb-true (n % 40 + 1) c both.1 in
      other (omega arith))
      ∙ sym (false_from_ne_true (eqb n (number r c)) (λ same. other (eqb-true n (number r c) same)))
]

-- choosing twice between two looks
choose_twice : {X : Type 0} (first later : Bool) (l new old : X) → (first ≡ true → l ≡ new)
    → cond later new (cond first l old) ≡ cond (first || later) new old
choose_twice true true l new old is = refl
choose_twice true false l new old is = is refl
choose_twice false true l new old is = refl
choose_twice false false l new old is = refl

-- the look at a place by its number
look_at-number : (h : List (List Look)) (n r c : ℕ) → OnScreen r c → eqb n (number r c) ≡ true
    → look_at h (place_of n) ≡ value_at blank_look h r c
look_at-number h n r c on same =
    ap (look_at h) (ap place_of (eqb-true n (number r c) same) ∙ place_of-number (record { row = r; column = c }) on)

-- looks of h painted over g: h at the places with these numbers, g at the others
painted-at : (g h : List (List Look)) (ns : List ℕ) (r c : ℕ) → OnScreen r c
    → value_at blank_look (grid_with_paints g (map (entry h) ns)) r c
    ≡ cond (has ns (number r c)) (value_at blank_look h r c) (value_at blank_look g r c)
unfolding grid_with_paints
painted-at g h [] r c on = refl
painted-at g h (n ∷ ns) r c on =
    painted-at (grid_with_paint g (place_of n) (look_at h (place_of n))) h ns r c on
    ∙ ap (λ old. cond (has ns (number r c)) (value_at blank_look h r c) old)
    (value_at-table (λ a b. cond (is_at (place_of n) a b) (look_at h (place_of n)) (value_at blank_look g a b)) blank_look r c on
    ∙ ap (λ b. cond b (look_at h (place_of n)) (value_at blank_look g r c)) (is_at-number n r c on))
    ∙ choose_twice (eqb n (number r c)) (has ns (number r c)) (look_at h (place_of n)) (value_at blank_look h r c)
    (value_at blank_look g r c) (look_at-number h n r c on)

-- ---- marking them

or_false : (b : Bool) → (b || false) ≡ b
or_false true = refl
or_false false = refl

or_moved : (a b c : Bool) → ((b || a) || c) ≡ (a || (b || c))
or_moved true true c = refl
or_moved true false c = refl
or_moved false true c = refl
or_moved false false c = refl

-- a place is marked besides
set-marked : (marks : List Bool) (n k : ℕ) → length marks ≡ 960 → k < 960
    → is_marked (set marks n true) k ≡ (eqb n k || is_marked marks k)
set-marked marks n k places below = elim (cases_eq n k) [
  | inl same ↦
      ap (is_marked (set marks n true)) (sym same) ∙ get_or-set_same marks n true false (omega (arith, same, places, below))
      ∙ ap (λ b. b || is_marked marks k) (sym (eq-eqb n k same))
  | inr other ↦
      get_or-set_other marks n k true false (λ e. other (sym e))
      ∙ ap (λ b. b || is_marked marks k) (sym (false_from_ne_true (eqb n k) (λ same. other (eqb-true n k same))))
]

marked-at : (marks : List Bool) (at : ℕ) (h : List (List Look)) (ns : List ℕ) (k : ℕ) → length marks ≡ 960 → k < 960
    → is_marked (marked_with marks (change_sayings at (map (entry h) ns))) k ≡ (is_marked marks k || has ns k)
unfolding marked_with
marked-at marks at h [] k places below = sym (or_false (is_marked marks k))
marked-at marks at h (n ∷ ns) k places below =
    marked-at (set marks (number (place_of n).row (place_of n).column) true) at h ns k
    (length-set marks (number (place_of n).row (place_of n).column) true ∙ places) below
    ∙ ap (λ m. is_marked (set marks m true) k || has ns k) (number-place_of n)
    ∙ ap (λ b. b || has ns k) (set-marked marks n k places below)
    ∙ or_moved (is_marked marks k) (eqb n k) (has ns k)

-- ---- what a command changes

-- as it is shown where it was renewed or not, and changed or not
shown-changed : (phase : Option ℕ) (renewed changed : Bool) (new old : Look) → (changed ≡ false → new ≡ old)
    → look_shown phase (renewed || changed) new ≡ cond changed new (look_shown phase renewed old)
shown-changed None renewed true new old same = refl
shown-changed None renewed false new old same = same refl
shown-changed (Some k) true true new old same = refl
shown-changed (Some k) false true new old same = refl
shown-changed (Some k) true false new old same = same refl
shown-changed (Some k) false false new old same = ap (λ l. look_shown (Some k) false l) (same refl)

module _ (g h : List (List Look)) (is_g : IsTable g) (is_h : IsTable h) (phase : Option ℕ) (marks : List Bool)
    (places : length marks ≡ 960) (at : ℕ) (ns : List ℕ)
    (gives : grid_with_paints g (map (entry h) ns) ≡ h) where
  -- a place with another number has the same look
  same_at : (r c : ℕ) → OnScreen r c → has ns (number r c) ≡ false → value_at blank_look h r c ≡ value_at blank_look g r c
  same_at r c on other =
      ap (λ (t : List (List Look)). value_at blank_look t r c) (sym gives) ∙ painted-at g h ns r c on
      ∙ ap (λ b. cond b (value_at blank_look h r c) (value_at blank_look g r c)) other

  shown-value : (t : List (List Look)) (m : List Bool) (r c : ℕ) → OnScreen r c
      → value_at blank_look (shown_of t phase m) r c ≡ look_shown phase (is_marked m (number r c)) (value_at blank_look t r c)
  unfolding shown_of
  shown-value t m r c on =
      value_at-table (λ a b. look_shown phase (is_marked m (number a b)) (value_at blank_look t a b)) blank_look r c on

  IsTable-shown : (t : List (List Look)) (m : List Bool) → IsTable (shown_of t phase m)
  unfolding shown_of
  IsTable-shown t m = IsTable-table (λ a b. look_shown phase (is_marked m (number a b)) (value_at blank_look t a b))

  pub shown-painted : shown_of h phase (marked_with marks (change_sayings at (map (entry h) ns)))
      ≡ grid_with_paints (shown_of g phase marks) (map (entry h) ns)
  shown-painted =
      same_tables _ _ blank_look (IsTable-shown h _)
      (IsTable-grid_with_paints (shown_of g phase marks) (map (entry h) ns) (IsTable-shown g marks))
      (λ r c on.
      shown-value h (marked_with marks (change_sayings at (map (entry h) ns))) r c on
      ∙ ap (λ b. look_shown phase b (value_at blank_look h r c)) (marked-at marks at h ns (number r c) places (number-lt r c on))
      ∙ shown-changed phase (is_marked marks (number r c)) (has ns (number r c)) (value_at blank_look h r c)
      (value_at blank_look g r c) (same_at r c on)
      ∙ ap (λ (l : Look). cond (has ns (number r c)) (value_at blank_look h r c) l) (sym (shown-value g marks r c on))
      ∙ sym (painted-at (shown_of g phase marks) h ns r c on))

-- the changes from one grid to another, over what was shown
pub shown-changes : (g h : List (List Look)) → IsTable g → IsTable h → (phase : Option ℕ) (marks : List Bool)
    → length marks ≡ 960 → (at : ℕ) → shown_of h phase (marked_with marks (change_sayings at (changes_between g h)))
    ≡ grid_with_paints (shown_of g phase marks) (changes_between g h)
unfolding marked_looks
shown-changes g h is_g is_h phase marks places at =
    shown-painted g h is_g is_h phase marks places at
    (filter (λ n. is_marked (differences g h) n) (range_with_len 0 960)) (grid_with_paints-changes_between g h is_g is_h)

-- ---- what a line changes

looks_said-changes : (at : ℕ) (xs : List (Place × Look)) → looks_said (change_sayings at xs) ≡ xs
looks_said-changes at [] = refl
looks_said-changes at (x ∷ xs) = ap (λ l. x ∷ l) (looks_said-changes at xs)

or_true : (b : Bool) → (b || true) ≡ true
or_true true = refl
or_true false = refl

-- a marked place stays marked
stays-marked : (marks : List Bool) (at : ℕ) (xs : List (Place × Look)) (k : ℕ) → length marks ≡ 960 → k < 960
    → is_marked marks k ≡ true → is_marked (marked_with marks (change_sayings at xs)) k ≡ true
unfolding marked_with
stays-marked marks at [] k places below is = is
stays-marked marks at (x ∷ xs) k places below is =
    let n = number x.0.row x.0.column in
    stays-marked (set marks n true) at xs k (length-set marks n true ∙ places) below
    (set-marked marks n k places below ∙ ap (λ b. eqb n k || b) is ∙ or_true (eqb n k))

-- the place of a change has its number
numbered-at : (p : Place) (r c : ℕ) → is_at p r c ≡ true → number p.row p.column ≡ number r c
numbered-at p r c here =
    let both = and_parts (eqb p.row r) (eqb p.column c) here in
    (λ i. number (eqb-true p.row r both.0 i) (eqb-true p.column c both.1 i))

-- a place that changes don't mark keeps its look
unmarked-same : (g : List (List Look)) (marks : List Bool) (at : ℕ) (xs : List (Place × Look)) (r c : ℕ) → OnScreen r c
    → length marks ≡ 960 → is_marked (marked_with marks (change_sayings at xs)) (number r c) ≡ false
    → value_at blank_look (grid_with_paints g xs) r c ≡ value_at blank_look g r c
unfolding marked_with grid_with_paints
unmarked-same g marks at [] r c on places none = refl
unmarked-same g marks at (x ∷ xs) r c on places none =
    let n = number x.0.row x.0.column in
    let k = number r c in
    let longer = length-set marks n true ∙ places in
    unmarked-same (grid_with_paint g x.0 x.1) (set marks n true) at xs r c on longer none
    ∙ value_at-table (λ a b. cond (is_at x.0 a b) x.1 (value_at blank_look g a b)) blank_look r c on
    ∙ ap (λ b. cond b x.1 (value_at blank_look g r c)) (false_from_ne_true (is_at x.0 r c) (λ here.
    true≢false (sym (stays-marked (set marks n true) at xs k longer (number-lt r c on)
    (set-marked marks n k places (number-lt r c on)
    ∙ ap (λ b. b || is_marked marks k) (eq-eqb n k (numbered-at x.0 r c here)))) ∙ none)))

-- a number that is chosen among others is one of them
has-kept : (b : Bool) (a k : ℕ) (rest : List ℕ) → has rest k ≡ true → has (cond b (a ∷ rest) rest) k ≡ true
has-kept true a k rest is = ap (λ e. eqb a k || e) is ∙ or_true (eqb a k)
has-kept false a k rest is = is

has-filtered : (p : ℕ → Bool) (a n k : ℕ) → a ≤ k → k < a + n → p k ≡ true → has (filter p (range_with_len a n)) k ≡ true
has-filtered p a zero k least below is = absurd (omega (arith, least, below))
has-filtered p a (suc n) k least below is =
    let rest = filter p (range_with_len (a + 1) n) in
    elim (cases_eq a k) [
      | inl same ↦ ap (λ b. has (cond b (a ∷ rest) rest) k) (ap p same ∙ is) ∙ ap (λ b. b || has rest k) (eq-eqb a k same)
      | inr other ↦ has-kept (p a) a k rest
          (has-filtered p (a + 1) n k (omega (arith, least, other)) (omega (arith, below)) is)
    ]

-- the places of changes that lead from one grid to another, each once with its look there
once-gives : (g h : List (List Look)) (changes : List (Place × Look)) → IsTable g → IsTable h → grid_with_paints g changes ≡ h
    → grid_with_paints g (map (entry h)
    (filter (λ n. is_marked (marked_with no_marks (change_sayings 0 changes)) n) (range_with_len 0 960))) ≡ h
once-gives g h changes is_g is_h gives =
    let marks = marked_with no_marks (change_sayings 0 changes) in
    let ns = filter (λ n. is_marked marks n) (range_with_len 0 960) in
    same_tables _ _ blank_look (IsTable-grid_with_paints g (map (entry h) ns) is_g) is_h (λ r c on.
    let k = number r c in
    painted-at g h ns r c on
    ∙ chosen (has ns k) (value_at blank_look h r c) (value_at blank_look g r c) (λ none.
    sym (unmarked-same g no_marks 0 changes r c on length-no_marks (false_from_ne_true (is_marked marks k) (λ is.
    true≢false (sym (has-filtered (λ n. is_marked marks n) 0 960 k (omega arith) (number-lt r c on) is) ∙ none))))
    ∙ ap (λ (t : List (List Look)). value_at blank_look t r c) gives))
  where
    chosen : (b : Bool) (new old : Look) → (b ≡ false → old ≡ new) → cond b new old ≡ new
    chosen true new old is = refl
    chosen false new old is = is refl

-- a line was made
pub line-shown : (step : Step) (old new : LiveState) (list now : List Notice) (to : ℕ) (page : List Command) (k : KeptEdits)
    → MakesLine step old list new to now → StandsAfter (editor_of old) page k → length old.renewed ≡ 960
    → shown new ≡ grid_with_paints (shown old) (looks_said (sayings_once old.parser.place
    (paints (line_events false 0 page k step)) (looks_of (core_of new.screen))))
unfolding marked_looks
line-shown step old new list now to page k made stands places =
    let g = looks_of (core_of old.screen) in
    let h = looks_of (core_of new.screen) in
    let changes = paints (line_events false 0 page k step) in
    let ns = filter (λ n. is_marked (marked_with no_marks (change_sayings 0 changes)) n) (range_with_len 0 960) in
    let gives : grid_with_paints g changes ≡ h =
    ap (λ (s : State). grid_with_paints (looks_of (core_of s)) changes) (ap (λ (e : EditorState). e.screen) stands.is)
    ∙ line_shown false 0 page k step
    ∙ ap (λ (s : State). looks_of (core_of s)) (sym (ap (λ (e : EditorState). e.screen) (made.stands page k stands).is)) in
    ap (λ (o : Option ℕ). shown_of h o new.renewed) made.phase
    ∙ ap (λ (m : List Bool). shown_of h old.phase m) (made.tells page k stands).marks_are
    ∙ shown-painted g h (IsTable-table _) (IsTable-table _) old.phase old.renewed places old.parser.place ns
    (once-gives g h changes (IsTable-table _) (IsTable-table _) gives)
    ∙ ap (grid_with_paints (shown old)) (sym (looks_said-changes old.parser.place (map (entry h) ns)))

-- ---- items

said-shown : (item : Item) (before : List Command) (s : Said) (phase : Option ℕ) (marks : List Bool) → length marks ≡ 960
    → shown_of (grid (before ++ command_said s)) phase (marked_with marks (said_sayings item before s))
    ≡ grid_with_paints (shown_of (grid before) phase marks) (looks_said (said_sayings item before s))
unfolding marked_with grid_with_paints
said-shown item before (said.Command command) phase marks places =
    shown-changes (grid before) (grid (before ++ command ∷ [])) (IsTable-table _) (IsTable-table _) phase marks places item.at
    ∙ ap (grid_with_paints (shown_of (grid before) phase marks)) (sym (looks_said-changes item.at (changes before command)))
said-shown item before (said.Refused reason) phase marks places =
    ap (λ (l : List Command). shown_of (grid l) phase marks) (append-nil before)

item-shown : (seen : List Item) (item : Item) (phase : Option ℕ) (marks : List Bool) → length marks ≡ 960
    → shown_of (grid (commands_of (seen ++ item ∷ []))) phase (marked_with marks (item_sayings seen item))
    ≡ grid_with_paints (shown_of (grid (commands_of seen)) phase marks) (looks_said (item_sayings seen item))
item-shown seen item phase marks places =
    ap (λ (l : List Command). shown_of (grid l) phase (marked_with marks (item_sayings seen item))) (commands_of-more seen item)
    ∙ said-shown item (commands_of seen) item.what phase marks places

-- items, each after those before it
items-shown : (seen more : List Item) (phase : Option ℕ) (marks : List Bool) → length marks ≡ 960
    → shown_of (grid (commands_of (seen ++ more))) phase (marked_with marks (sayings_after seen more))
    ≡ grid_with_paints (shown_of (grid (commands_of seen)) phase marks) (looks_said (sayings_after seen more))
unfolding sayings_after marked_with grid_with_paints
items-shown seen [] phase marks places =
    ap (λ (l : List Item). shown_of (grid (commands_of l)) phase marks) (append-nil seen)
items-shown seen (item ∷ more) phase marks places =
    let here = item_sayings seen item in
    let later = sayings_after (seen ++ item ∷ []) more in
    ap (λ (l : List Item). shown_of (grid (commands_of l)) phase (marked_with marks (here ++ later)))
    (sym (append_assoc seen (item ∷ []) more))
    ∙ ap (λ (m : List Bool). shown_of (grid (commands_of ((seen ++ item ∷ []) ++ more))) phase m) (marked_with-append marks here later)
    ∙ items-shown (seen ++ item ∷ []) more phase (marked_with marks here) (length-marked_with marks here ∙ places)
    ∙ ap (λ (t : List (List Look)). grid_with_paints t (looks_said later)) (item-shown seen item phase marks places)
    ∙ sym (grid_with_paints-append (shown_of (grid (commands_of seen)) phase marks) (looks_said here) (looks_said later))
    ∙ ap (grid_with_paints (shown_of (grid (commands_of seen)) phase marks)) (sym (flat_map-append look_said here later))

-- ---- decoders

module _ (old new : LiveState) (seen now_seen closed : List Item) (stood : Stands old.screen seen)
    (stands : Stands new.screen now_seen) (are : now_seen ≡ seen ++ closed) (phase : new.phase ≡ old.phase)
    (places : length old.renewed ≡ 960)
    (renews : new.renewed ≡ marked_with old.renewed (sayings_after seen closed)) where
  pub closed-shown : shown new ≡ grid_with_paints (shown old) (looks_said (sayings_after seen closed))
  closed-shown =
      ap (λ (s : State). shown_of (looks_of (core_of s)) new.phase new.renewed)
      (stands.is ∙ ap (λ (l : List Item). state (commands_of l)) are)
      ∙ ap (λ (o : Option ℕ). shown_of (grid (commands_of (seen ++ closed))) o new.renewed) phase
      ∙ ap (λ (m : List Bool). shown_of (grid (commands_of (seen ++ closed))) old.phase m) renews
      ∙ items-shown seen closed old.phase old.renewed places
      ∙ ap (λ (s : State). grid_with_paints (shown_of (looks_of (core_of s)) old.phase old.renewed)
      (looks_said (sayings_after seen closed))) (sym stood.is)

-- the items that come after others are these alone
same_closed : (seen after closed : List Item) (marks marked : List Bool) (list now : List Notice) (from to : ℕ)
    (told : TellsItems seen after marks list from marked to now) → after ≡ seen ++ closed → told.closed ≡ closed
same_closed seen after closed marks marked list now from to told are =
    append_cancel_left seen told.closed closed (sym told.are ∙ are)

pub fed-shown : (old new : LiveState) (more : List ℕ) (list now : List Notice) (from to : ℕ) (bytes : List ℕ) (closed : List Item)
    → Feeds old more list from new to now → HasFed old bytes → items (bytes ++ more) ≡ items bytes ++ closed
    → shown new ≡ grid_with_paints (shown old) (looks_said (sayings_after (items bytes) closed))
fed-shown old new more list now from to bytes closed feeds has are =
    let told = feeds.tells bytes has in
    closed-shown old new (items bytes) (items (bytes ++ more)) closed has.screen (feeds.feeds bytes has).screen are feeds.phase has.places
    (told.marks_are ∙ ap (λ (l : List Item). marked_with old.renewed (sayings_after (items bytes) l))
    (same_closed _ _ closed _ _ _ _ _ _ told are))

pub ended-shown : (old new : LiveState) (list now : List Notice) (from to : ℕ) (bytes : List ℕ) (closed : List Item)
    → Ends old list from new to now → HasFed old bytes → closed_items bytes ≡ items bytes ++ closed
    → shown new ≡ grid_with_paints (shown old) (looks_said (sayings_after (items bytes) closed))
ended-shown old new list now from to bytes closed ends has are =
    let told = ends.tells bytes has in
    closed-shown old new (items bytes) (closed_items bytes) closed has.screen (ends.stands bytes has) are ends.phase has.places
    (told.marks_are ∙ ap (λ (l : List Item). marked_with old.renewed (sayings_after (items bytes) l))
    (same_closed _ _ closed _ _ _ _ _ _ told are))

-- a phase that begins shows all looks at it
shown_of-phase : (g : List (List Look)) (k : ℕ) → shown_of g (Some k) no_marks ≡ frame g k
unfolding shown_of frame no_marks
shown_of-phase g k = same_table _ _ (λ r c on.
    ap (λ b. look_shown (Some k) b (value_at blank_look g r c)) (get_or-replicate 960 (number r c) false false (number-lt r c on)))

pub begun-phase : (old new : LiveState) (before : List (List Look)) (phase to : ℕ) (list now : List Notice)
    → Begins old before phase list new to now → shown new ≡ frame (looks_of (core_of old.screen)) phase
begun-phase old new before phase to list now begins =
    ap (λ (l : LiveState). shown l) begins.live ∙ shown_of-phase (looks_of (core_of old.screen)) phase

IsTable-frame : (g : List (List Look)) (k : ℕ) → IsTable (frame g k)
unfolding frame
IsTable-frame g k = IsTable-table (λ r c. look_at_phase (value_at blank_look g r c) k)

pub begun-shown : (old new : LiveState) (before : List (List Look)) (phase to : ℕ) (list now : List Notice) → IsTable before
    → Begins old before phase list new to now
    → shown new ≡ grid_with_paints before (changes_between before (frame (looks_of (core_of old.screen)) phase))
begun-shown old new before phase to list now is begins =
    begun-phase old new before phase to list now begins
    ∙ sym (grid_with_paints-changes_between before (frame (looks_of (core_of old.screen)) phase) is (IsTable-frame _ phase))

-- where nothing was renewed since a phase began, all looks are shown at it
pub shown-kept : (live : LiveState) (k : ℕ) → live.phase ≡ Some k → live.renewed ≡ no_marks
    → shown live ≡ frame (looks_of (core_of live.screen)) k
shown-kept live k phase renewed =
    ap (λ (o : Option ℕ). shown_of (looks_of (core_of live.screen)) o live.renewed) phase
    ∙ ap (λ (m : List Bool). shown_of (looks_of (core_of live.screen)) (Some k) m) renewed
    ∙ shown_of-phase (looks_of (core_of live.screen)) k

-- where no phase began, the looks are shown as they were fed
shown_of-none : (g : List (List Look)) (renewed : List Bool) → IsTable g → shown_of g None renewed ≡ g
unfolding shown_of
shown_of-none g renewed is = table-value_at g blank_look is

pub shown-unflashed : (live : LiveState) → live.phase ≡ None → shown live ≡ looks_of (core_of live.screen)
shown-unflashed live phase =
    ap (λ (o : Option ℕ). shown_of (looks_of (core_of live.screen)) o live.renewed) phase
    ∙ shown_of-none (looks_of (core_of live.screen)) live.renewed (IsTable-table _)

-- so at first
pub shown-start : shown live_start ≡ table (λ r c. blank_look)
shown-start = shown-unflashed live_start refl ∙ grid-none
