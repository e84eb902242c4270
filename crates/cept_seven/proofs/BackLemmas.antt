-- A seven-bit form has seven bits and few bytes, and comes back in eight as the wide form.
use Rattle.std.proofs.Common.{◌≡◌, ◌⊎◌, ℕ, ◌+◌, ◌-◌, ◌*◌, ◌<◌, ◌≤◌, Bool, true, false, ◌&&◌, List, [], ◌∷◌, ◌++◌}
use Rattle.std.proofs.Common.{cond, eqb, length, refl, sym, ap, subst, ◌∙◌, arith, inl, inr}
use Rattle.std.proofs.lemmas.Bool.{cases_Bool, cases_lt}
use Rattle.std.proofs.lemmas.Bool.Decides.{nat_tests}
use Rattle.std.proofs.lemmas.List.{append_assoc, length-append}
use Rattle.std.specs.Prelude.{nat_lt, nat_le}
use Rattle.std.specs.List.{AllByRecursion}
use Rattle.cept_parser.specs.Bytes.{is_between, is_plain}
use Rattle.cept_parser.specs.Valid.{AreBytes}
use Rattle.cept_seven.specs.Seven.{is_right, is_c1, is_quotable, text, begins_right, texts, seven}
use Rattle.cept_seven.specs.Eight.{is_shifted, is_quoted, state_after, is_refused, heard, bytes_heard, eight_after, eight}
use Rattle.cept_seven.specs.Eight.{accepted_after, AreAccepted}
use Rattle.cept_seven.proofs.Onto.{onto}
use Rattle.cept_seven.specs.declared.from_seven.Heard.{Heard}
use Rattle.cept_seven.specs.declared.from_seven.Heard.TheVariants.{Byte, Silent}
use Rattle.cept_seven.specs.Wide.{wide_byte, wide}

-- ---- one byte after others

-- bytes, the last one first, after which one is read as in the right half or in the left, and isn't quoted
record Stands (h : List ℕ) (right : Bool) : Type 0 where
  shifted : is_shifted h ≡ right
  unquoted : is_quoted h ≡ false

-- a byte is accepted after these and gives this
record Takes (h : List ℕ) (a : ℕ) (b : Heard) : Type 0 where
  accepted : is_refused (state_after h) a ≡ false
  gives : heard (state_after h) a ≡ b

takes_quotable : (h : List ℕ) (a : ℕ) (r : Bool) → is_quotable a ≡ true → Stands h r → Takes h a Silent
takes_quotable h a r q s =
    let small : nat_le 0x80 a ≡ false = grind (arith, nat_tests) in
    let e : is_quoted h ≡ false = s.unquoted in
    record { accepted = rw (small, e) refl; gives = rw (small, e, q) refl }

takes_quoted : (h : List ℕ) (a : ℕ) → is_quotable a ≡ true → is_quoted h ≡ true → Takes h (a + 0x40) (Byte a)
takes_quoted h a q e =
    let small : nat_le 0x80 (a + 0x40) ≡ false = grind (arith, nat_tests) in
    let fits : is_between 0x4E 0x50 (a + 0x40) ≡ true = grind (arith, nat_tests) in
    let not : is_quotable (a + 0x40) ≡ false = grind (arith, nat_tests) in
    let back : a + 0x40 - 0x40 ≡ a = omega arith in
    record { accepted = rw (small, e, fits) refl; gives = rw (small, e, fits, not, back) refl }

takes_right : (h : List ℕ) (a : ℕ) → is_right a ≡ true → Stands h true → Takes h (a - 0x80) (Byte a)
takes_right h a r s =
    let small : nat_le 0x80 (a - 0x80) ≡ false = grind (arith, nat_tests) in
    let not : is_quotable (a - 0x80) ≡ false = grind (arith, nat_tests) in
    let plain : is_plain (a - 0x80) ≡ true = grind (arith, nat_tests) in
    let back : a - 0x80 + 0x80 ≡ a = grind (arith, nat_tests) in
    let e : is_quoted h ≡ false = s.unquoted in
    let f : is_shifted h ≡ true = s.shifted in
    record { accepted = rw (small, e) refl; gives = rw (small, e, not, plain, f, back) refl }

takes_left : (h : List ℕ) (a : ℕ) → nat_le 0x80 a ≡ false → is_quotable a ≡ false → Stands h false → Takes h a (Byte a)
takes_left h a small q s =
    let e : is_quoted h ≡ false = s.unquoted in
    let f : is_shifted h ≡ false = s.shifted in
    record { accepted = rw (small, e) refl; gives = rw (small, e, q, f) (left_go (is_plain a)) }
  where
    left_go : (p : Bool) → cond (p && false) (Byte (a + 0x80)) (Byte a) ≡ Byte a
    left_go true = refl
    left_go false = refl

-- ---- texts

-- bytes are accepted after these, give bytes, and leave what comes next to be read so
record Gives (h u given : List ℕ) (right : Bool) : Type 0 where
  all : (s : List ℕ) → eight_after h (u ++ s) ≡ given ++ eight_after (onto u h) s
  accepted : (s : List ℕ) → accepted_after (onto u h) s ≡ s → accepted_after h (u ++ s) ≡ u ++ s
  stands : Stands (onto u h) right

gives_nothing : (h : List ℕ) (r : Bool) → Stands h r → Gives h [] [] r
gives_nothing h r s = record { all = λ t. refl; accepted = λ t p. p; stands = s }

gives_more : (h : List ℕ) (a : ℕ) (b : Heard) (u given : List ℕ) (r : Bool) → Takes h a b → Gives (a ∷ h) u given r
    → Gives h (a ∷ u) (bytes_heard b ++ given) r
unfolding eight_after accepted_after
gives_more h a b u given r t g =
    record {
      all = λ s. ap (λ c. bytes_heard c ++ eight_after (a ∷ h) (u ++ s)) t.gives ∙ ap (λ w. bytes_heard b ++ w) (g.all s)
          ∙ sym (append_assoc (bytes_heard b) given (eight_after (onto u (a ∷ h)) s));
      accepted = λ s p. rw t.accepted (ap (λ w. a ∷ w) (g.accepted s p));
      stands = g.stands;
    }

plain_stands : (h : List ℕ) (a : ℕ) (r : Bool) → 0x20 ≤ a → Stands h r → Stands (a ∷ h) r
unfolding is_shifted
plain_stands h a r l s =
    let e : nat_lt a 0x20 ≡ false = grind (arith, nat_tests) in
    record { shifted = rw e s.shifted; unquoted = grind (arith, nat_tests) }

control_stands : (h : List ℕ) (a : ℕ) → a < 0x20 → eqb a 0x0E ≡ false → eqb a 0x10 ≡ false → Stands (a ∷ h) false
unfolding is_shifted
control_stands h a l e f =
    let c : nat_lt a 0x20 ≡ true = grind (arith, nat_tests) in
    record { shifted = rw (c, e) refl; unquoted = f }

so_stands : (h : List ℕ) → Stands (0x0E ∷ h) true
unfolding is_shifted
so_stands h = record { shifted = refl; unquoted = refl }

-- the text of a byte gives its wide form
abbrev GivesText : List ℕ → Bool → ℕ → Bool → Type 0
GivesText h before a after = Gives h (text before a after) (wide_byte a) (is_right a && after)

right_gives : (h : List ℕ) (before : Bool) (a : ℕ) (after : Bool) → is_right a ≡ true → Stands h before
    → GivesText h before a after
right_gives h before a after r s =
    let c : is_c1 a ≡ false = grind (arith, nat_tests) in
    rw (r, c) (go before after s)
  where
    low : (h : List ℕ) (s : Stands h true) → Stands ((a - 0x80) ∷ h) true
    low h s = plain_stands h (a - 0x80) true (grind (arith, nat_tests)) s

    shut : (h : List ℕ) (after : Bool) → Stands h true
        → Gives h ((a - 0x80) ∷ (cond after [] (0x0F ∷ []))) (a ∷ []) after
    shut h true s =
        gives_more h (a - 0x80) (Byte a) [] [] true (takes_right h a r s) (gives_nothing _ true (low h s))
    shut h false s =
        gives_more h (a - 0x80) (Byte a) (0x0F ∷ []) [] false (takes_right h a r s)
        (gives_more _ 0x0F Silent [] [] false (takes_quotable _ 0x0F true refl (low h s))
        (gives_nothing _ false (control_stands _ 0x0F (omega arith) refl refl)))

    go : (before after : Bool) → Stands h before
        → Gives h (cond before [] (0x0E ∷ []) ++ (a - 0x80) ∷ (cond after [] (0x0F ∷ []))) (a ∷ []) after
    go true after s = shut h after s
    go false after s =
        gives_more h 0x0E Silent _ (a ∷ []) after (takes_quotable h 0x0E false refl s) (shut (0x0E ∷ h) after (so_stands h))

c1_gives : (h : List ℕ) (before : Bool) (a : ℕ) (after : Bool) → is_c1 a ≡ true → Stands h false
    → GivesText h before a after
c1_gives h before a after c s =
    let r : is_right a ≡ false = grind (arith, nat_tests) in
    let small : nat_le 0x80 (a - 0x40) ≡ false = grind (arith, nat_tests) in
    let q : is_quotable (a - 0x40) ≡ false = grind (arith, nat_tests) in
    let l : 0x20 ≤ a - 0x40 = grind (arith, nat_tests) in
    let esc = control_stands h 0x1B (omega arith) refl refl in
    rw (r, c) (gives_more h 0x1B (Byte 0x1B) ((a - 0x40) ∷ []) ((a - 0x40) ∷ []) false (takes_left h 0x1B refl refl s)
    (gives_more _ (a - 0x40) (Byte (a - 0x40)) [] [] false (takes_left _ (a - 0x40) small q esc)
    (gives_nothing _ false (plain_stands _ (a - 0x40) false l esc))))

quoted_stands : (h : List ℕ) (a : ℕ) → 0x20 ≤ a → Stands (a ∷ 0x10 ∷ h) false
unfolding is_shifted
quoted_stands h a l =
    let e : nat_lt a 0x20 ≡ false = grind (arith, nat_tests) in
    let f : eqb a 0x10 ≡ false = grind (arith, nat_tests) in
    record { shifted = rw e refl; unquoted = f }

quotable_gives : (h : List ℕ) (before : Bool) (a : ℕ) (after : Bool) → is_quotable a ≡ true → Stands h false
    → GivesText h before a after
quotable_gives h before a after q s =
    let r : is_right a ≡ false = grind (arith, nat_tests) in
    let c : is_c1 a ≡ false = grind (arith, nat_tests) in
    let l : 0x20 ≤ a + 0x40 = omega arith in
    rw (r, c, q) (gives_more h 0x10 Silent ((a + 0x40) ∷ []) (a ∷ []) false (takes_quotable h 0x10 false refl s)
    (gives_more _ (a + 0x40) (Byte a) [] [] false (takes_quoted _ a q refl) (gives_nothing _ false (quoted_stands h (a + 0x40) l))))

other_gives : (h : List ℕ) (before : Bool) (a : ℕ) (after : Bool) → is_right a ≡ false → is_c1 a ≡ false
    → is_quotable a ≡ false → a < 256 → Stands h false → GivesText h before a after
other_gives h before a after r c q l s =
    let small : nat_le 0x80 a ≡ false = grind (arith, nat_tests) in
    rw (r, c, q) (gives_more h a (Byte a) [] [] false (takes_left h a small q s) (gives_nothing _ false (stands_go (cases_lt a 0x20))))
  where
    stands_go : (a < 0x20) ⊎ (0x20 ≤ a) → Stands (a ∷ h) false
    stands_go (inl k) = control_stands h a k (grind (arith, nat_tests)) (grind (arith, nat_tests))
    stands_go (inr k) = plain_stands h a false k s

text_gives : (h : List ℕ) (before : Bool) (a : ℕ) (after : Bool) → a < 256 → Stands h (before && is_right a)
    → GivesText h before a after
text_gives h before a after l s =
    elim (cases_Bool (is_right a)) [
      | inl r ↦ right_gives h before a after r (subst (Stands h) (ap (λ b. before && b) r ∙ and_true before) s)
      | inr r ↦ left_go r (subst (Stands h) (ap (λ b. before && b) r ∙ and_false before) s)
    ]
  where
    and_true : (b : Bool) → (b && true) ≡ b
    and_true true = refl
    and_true false = refl

    and_false : (b : Bool) → (b && false) ≡ false
    and_false true = refl
    and_false false = refl

    left_go : is_right a ≡ false → Stands h false → GivesText h before a after
    left_go r s =
        elim (cases_Bool (is_c1 a)) [
          | inl c ↦ c1_gives h before a after c s
          | inr c ↦ elim (cases_Bool (is_quotable a)) [
            | inl q ↦ quotable_gives h before a after q s
            | inr q ↦ other_gives h before a after r c q l s
          ]
        ]

-- ---- all texts

-- bytes are accepted after these and give those
record ComesBack (h u bytes : List ℕ) : Type 0 where
  given : eight_after h u ≡ bytes
  accepted : accepted_after h u ≡ u

texts_back : (b h : List ℕ) (before : Bool) → AreBytes b → Stands h (before && begins_right b false)
    → ComesBack h (texts before b false) (wide b)
unfolding texts eight_after accepted_after
texts_back [] h before k s = record { given = refl; accepted = refl }
texts_back (a ∷ b) h before k s =
    let g = text_gives h before a (begins_right b false) k.0 s in
    let rest = texts_back b _ (is_right a) k.1 g.stands in
    record {
      given = g.all (texts (is_right a) b false) ∙ ap (λ w. wide_byte a ++ w) rest.given;
      accepted = g.accepted (texts (is_right a) b false) rest.accepted;
    }

seven_back : (b : List ℕ) → AreBytes b → ComesBack [] (seven b) (wide b)
unfolding is_shifted
seven_back b k = texts_back b [] false k (record { shifted = refl; unquoted = refl })

pub seven_given : (b : List ℕ) → AreBytes b → eight (seven b) ≡ wide b
seven_given b k = (seven_back b k).given

pub seven_accepted : (b : List ℕ) → AreBytes b → AreAccepted (seven b)
seven_accepted b k = (seven_back b k).accepted

-- ---- bytes of seven bits, and how many

accepted_first : (h : List ℕ) (a : ℕ) (s : List ℕ) → accepted_after h (a ∷ s) ≡ a ∷ s
    → (is_refused (state_after h) a ≡ false) × (accepted_after (a ∷ h) s ≡ s)
unfolding accepted_after
accepted_first h a s p = first_go (is_refused (state_after h) a) p
  where
    first_go : (r : Bool) → cond r [] (a ∷ accepted_after (a ∷ h) s) ≡ a ∷ s
        → (r ≡ false) × (accepted_after (a ∷ h) s ≡ s)
    first_go true e = absurd cc
    first_go false e = (refl, cc)

accepted_small : (h s : List ℕ) → accepted_after h s ≡ s → AllByRecursion (λ a. a ≤ 0x7F) s
accepted_small h [] p = tt
accepted_small h (a ∷ s) p =
    let first = accepted_first h a s p in
    (small_go (is_quoted h) first.0, accepted_small (a ∷ h) s first.1)
  where
    small_go : (q : Bool) → is_refused (record { shifted = is_shifted h; quoted = q }) a ≡ false → a ≤ 0x7F
    small_go q e = grind (arith, nat_tests)

pub seven_small : (b : List ℕ) → AreBytes b → AllByRecursion (λ a. a ≤ 0x7F) (seven b)
seven_small b k = accepted_small [] (seven b) (seven_accepted b k)

text_short : (before : Bool) (a : ℕ) (after : Bool) → length (text before a after) ≤ 3
text_short before a after =
    elim (cases_Bool (is_right a)) [
      | inl r ↦ rw r (right_go before after)
      | inr r ↦ elim (cases_Bool (is_c1 a)) [
        | inl c ↦ rw (r, c) (omega arith)
        | inr c ↦ elim (cases_Bool (is_quotable a)) [ inl q ↦ rw (r, c, q) (omega arith) | inr q ↦ rw (r, c, q) (omega arith) ]
      ]
    ]
  where
    right_go : (before after : Bool)
        → length (cond before [] (0x0E ∷ []) ++ (a - 0x80) ∷ (cond after [] (0x0F ∷ []))) ≤ 3
    right_go true true = omega arith
    right_go true false = omega arith
    right_go false true = omega arith
    right_go false false = omega arith

texts_short : (before : Bool) (b : List ℕ) (after : Bool) → length (texts before b after) ≤ 3 * length b
unfolding texts
texts_short before [] after = omega arith
texts_short before (a ∷ b) after =
    let u = text before a (begins_right b after) in
    let v = texts (is_right a) b after in
    let k : length (u ++ v) ≡ length u + length v = length-append u v in
    let l = text_short before a (begins_right b after) in
    let m = texts_short (is_right a) b after in
    omega arith

pub seven_short : (b : List ℕ) → length (seven b) ≤ 3 * length b
seven_short b = texts_short false b false
