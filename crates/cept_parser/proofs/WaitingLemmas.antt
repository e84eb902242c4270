-- Bytes that wait.
use Rattle.std.proofs.Common.{◌≡◌, ℕ, ◌+◌, ◌-◌, ◌<◌, ◌≤◌, Bool, true, false, Some, None, inl, inr}
use Rattle.std.proofs.Common.{List, [], ◌∷◌, ◌++◌, length, cond, refl, sym, ap, subst, ◌∙◌, arith}
use Rattle.std.proofs.lemmas.List.{length-append}
use Rattle.std.proofs.lemmas.Bool.{cases_Bool}
use Rattle.cept_codes.specs.declared.item.Item.{Item}
use Rattle.cept_parser.specs.declared.context.Context.{Context}
use Rattle.cept_parser.specs.declared.context.Outcome.{Outcome}
use Rattle.cept_parser.specs.Context.{start_context}
use Rattle.cept_parser.specs.Bytes.{is_empty}
use Rattle.cept_parser.specs.Grammar.{unit, fits, grows}
use Rattle.cept_parser.specs.Items.{front, Reading, reading_with_items, reading_at, reading}
use Rattle.cept_parser.proofs.LongestBeginningLemmas.{front_of}
use Rattle.cept_parser.specs.Items.{items, closing_items}
use Rattle.cept_parser.specs.inside.Waits.{said_at_end}
use Rattle.cept_parser.specs.State.{ParserState, Leads, reading_with, parser_after, pending_reading}
use Rattle.cept_parser.specs.Beginning.{IsContinued}
use Rattle.cept_parser.specs.Valid.{AreValid, AreMeasured}
use Rattle.cept_parser.specs.Waits.{Waits}
use Rattle.cept_parser.proofs.GrammarLemmas.{plain_fits}
use Rattle.cept_parser.proofs.ValidOutcomeLemmas.{start_valid, fits_hundred}
use Rattle.cept_parser.proofs.GrammarLemmas.{grows_continued}
use Rattle.cept_parser.proofs.LongestBeginningLemmas.{waits_fits, front_none, front_fitting, closing_is}
use Rattle.cept_parser.proofs.ReadingInPartsLemmas.{read_append, read_place, read_waits}
use Rattle.cept_parser.proofs.OneByteMoreLemmas.{closes_now}
use Rattle.cept_parser.proofs.ValidItemLemmas.{read_sound, bytes_more, end_sound, cases_outcome}

empty_length : (p : List ℕ) → length p ≡ 0 → is_empty p ≡ true
empty_length [] e = refl
empty_length (a ∷ p) e = absurd (omega arith)

some_length : (p : List ℕ) → 0 < length p → is_empty p ≡ false
some_length [] e = absurd (omega arith)
some_length (a ∷ p) e = refl

waits_open : (x : Context) (p : List ℕ) → fits x p ≡ true → unit x p ≡ None → IsContinued x p
waits_open x p h e = record { byte = 0x7F; small = omega arith; fit = plain_fits x p 0x7F refl h e }

waits_whole : (x : Context) (p : List ℕ) (o : Outcome) → front x p ≡ None → fits x p ≡ true → unit x p ≡ Some o
    → IsContinued x p
waits_whole x p o w h e =
    let closes : grows x p ≡ false → front x p ≡ Some (record { said = o.said; size = length p; next = o.next }) = λ g.
    front_fitting x p h ∙ ap (λ (b : Bool). front_of x (length p) true b (unit x p)) g
    ∙ ap (front_of x (length p) true false) e ∙ closes_now x (length p) true o in
    let never : grows x p ≡ false → IsContinued x p = λ g. let s = closes g in absurd cc in
    elim (cases_Bool (grows x p)) [ inl g ↦ grows_continued x p o e g | inr g ↦ never g ]

-- a byte fits after bytes that wait
pub waits_continued : (x : Context) (p : List ℕ) → front x p ≡ None → IsContinued x p
waits_continued x p w =
    let h = waits_fits x p w in
    elim (cases_outcome (unit x p)) [ inl e ↦ waits_open x p h e | inr q ↦ waits_whole x p q.0 w h q.1 ]

-- bytes that wait are at most 99
pub waits_small : (x : Context) (place : ℕ) (p : List ℕ) → Waits x place p → length p ≤ 99
waits_small x place p w =
    let c = waits_continued x p w.waits in
    let h : length (p ++ c.byte ∷ []) ≤ 100 = fits_hundred x (p ++ c.byte ∷ []) w.context c.fit in
    omega (arith, length-append p (c.byte ∷ []))

-- no bytes wait
pub none_waits : Waits start_context 0 []
none_waits =
    record {
      waits = front_none start_context [] (omega arith);
      counted = omega arith;
      context = start_valid;
      bytes =
          tt;
    }

-- what a reading leaves waits
pub reading_waits : (x : Context) (place at : ℕ) (p : List ℕ) (c : ℕ) → Waits x place p → at ≡ place - length p
    → c < 256 → let r = reading_at x at (p ++ c ∷ []) in Waits r.context (place + 1) r.pending
reading_waits x place at p c w e l =
    let s = read_sound x at (p ++ c ∷ []) w.context (bytes_more p c w.bytes l) in
    let q = read_place x at (p ++ c ∷ []) in
    let n = length-append p (c ∷ []) in
    let k = w.counted in
    record { waits = read_waits x at (p ++ c ∷ []); counted = omega arith; context = s.context; bytes = s.bytes }

-- what the end of the input adds is valid and has its length
pub closing_sound : (x : Context) (place at : ℕ) (p : List ℕ) → Waits x place p → let r : Reading =
    record { items = []; context = x; at = at; pending = p } in
    AreValid (closing_items r) × AreMeasured (closing_items r)
closing_sound x place at p w =
    let r : Reading = record { items = []; context = x; at = at; pending = p } in
    subst (λ (is : List Item). AreValid is × AreMeasured is) (sym (closing_is r)) (sound p w)
  where
    sound : (p : List ℕ) → Waits x place p
        → (let is = cond {A = List Item} (is_empty p) [] (record { at = at; len = length p; what = said_at_end (unit x p) } ∷ []) in
        AreValid is × AreMeasured is)
    sound [] w = (tt, tt)
    sound (a ∷ p) w =
        let s = end_sound x (a ∷ p) w.context w.bytes (waits_fits x (a ∷ p) w.waits) in
        ((s.0, tt), ((omega arith, s.1), tt))

-- nothing is added where nothing is pending
pub closing_none : (r : Reading) → length r.pending ≡ 0 → closing_items r ≡ []
closing_none r e =
    let item : Item = record { at = r.at; len = length r.pending; what = said_at_end (unit r.context r.pending) } in
    closing_is r ∙ ap (λ b. cond b [] (item ∷ [])) (empty_length r.pending e)

pub closing_one : (r : Reading) → 0 < length r.pending
    → closing_items r ≡ record { at = r.at; len = length r.pending; what = said_at_end (unit r.context r.pending) } ∷ []
closing_one r e =
    let item : Item = record { at = r.at; len = length r.pending; what = said_at_end (unit r.context r.pending) } in
    closing_is r ∙ ap (λ b. cond b [] (item ∷ [])) (some_length r.pending e)

-- at the end of the input nothing waits any more
pub ended_waits : (x : Context) (place : ℕ) (p : List ℕ) → Waits x place p → Waits x place []
ended_waits x place p w =
    record { waits = front_none x [] (omega arith); counted = omega arith; context = w.context; bytes = tt }

-- where bytes lead to a state, their pending bytes stand there
leads_at : (b : List ℕ) (s : ParserState) → Leads b s → s.place - length s.pending ≡ (reading b).at
leads_at b s l =
    let q : (reading b).at + length (reading b).pending ≡ 0 + length b = read_place start_context 0 b in
    let p : length s.pending ≡ length (reading b).pending = ap length l.pending in
    omega (arith, l.place)

reading_leads : (b : List ℕ) (s : ParserState) (byte : ℕ) → Leads b s
    → reading_with s byte ≡ (let r = reading b in reading_at r.context r.at (r.pending ++ byte ∷ []))
reading_leads b s byte l =
    let at : s.place - length s.pending ≡ (reading b).at = leads_at b s l in
    ap (λ (n : ℕ). reading_at s.context n (s.pending ++ byte ∷ [])) at
    ∙ ap (λ (y : Context). reading_at y (reading b).at (s.pending ++ byte ∷ [])) l.context
    ∙ ap (λ (q : List ℕ). reading_at (reading b).context (reading b).at (q ++ byte ∷ [])) l.pending

whole_leads : (b : List ℕ) (s : ParserState) (byte : ℕ) → Leads b s
    → reading (b ++ byte ∷ []) ≡ reading_with_items (items b) (reading_with s byte)
whole_leads b s byte l = read_append start_context 0 b (byte ∷ [])
    ∙ ap (reading_with_items (items b)) (sym (reading_leads b s byte l))

-- the items of bytes that lead to a state and one more
pub items_lead : (b : List ℕ) (s : ParserState) (byte : ℕ) → Leads b s
    → items (b ++ byte ∷ []) ≡ items b ++ (reading_with s byte).items
items_lead b s byte l = ap (λ (r : Reading). r.items) (whole_leads b s byte l)

-- bytes that lead to a state lead with one more to the state after it
pub leads_on : (b : List ℕ) (s : ParserState) (byte : ℕ) → Leads b s → Leads (b ++ byte ∷ []) (parser_after s byte)
leads_on b s byte l =
    let e = whole_leads b s byte l in
    let n = length-append b (byte ∷ []) in
    record {
      place = omega (arith, l.place);
      context = ap (λ (r : Reading). r.context) (sym e);
      pending =
          ap (λ (r : Reading). r.pending) (sym e);
      running = l.running;
    }

-- what the end of the input adds to bytes that lead to a state
pub closing_leads : (b : List ℕ) (s : ParserState) → Leads b s
    → closing_items (reading b) ≡ closing_items (pending_reading s)
unfolding closing_items
closing_leads b s l =
    let at : s.place - length s.pending ≡ (reading b).at = leads_at b s l in
    let by = λ (y : Context) (n : ℕ) (q : List ℕ). closing_items (record {
      items = [];
      context = y;
      at = n;
      pending =
          q;
    }) in
    sym (ap (λ (y : Context). by y (s.place - length s.pending) s.pending) l.context
    ∙ ap (λ (n : ℕ). by (reading b).context n s.pending) at
    ∙ ap (λ (q : List ℕ). by (reading b).context (reading b).at q) l.pending)
