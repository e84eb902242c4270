-- One byte more: what it adds to a seven-bit form, and what it gives of one.
use Rattle.std.proofs.Common.{◌≡◌, ℕ, ◌+◌, ◌-◌, Bool, true, false, ◌&&◌, cond, List, [], ◌∷◌, ◌++◌, reverse}
use Rattle.std.proofs.Common.{refl, sym, ap, ◌∙◌, inl, inr}
use Rattle.std.proofs.lemmas.Bool.{cases_Bool}
use Rattle.std.proofs.lemmas.List.{append_assoc, append-nil, reverse-append}
use Rattle.cept_parser.specs.Bytes.{is_plain}
use Rattle.cept_seven.specs.Seven.{is_right, is_quotable, text, begins_right, ends_right, texts, seven, unclosed}
use Rattle.cept_seven.specs.Seven.{text_added, text_at_end}
use Rattle.cept_seven.specs.Eight.{is_shifted, ShiftState, state_after, state_with, is_refused, heard}
use Rattle.cept_seven.specs.Eight.{bytes_heard, eight_after, eight, accepted_after, accepted, Leads}
use Rattle.cept_seven.proofs.Onto.{onto}
use Rattle.cept_seven.specs.declared.from_seven.Heard.{Heard}
use Rattle.cept_seven.specs.declared.from_seven.Heard.TheVariants.{Byte, Silent, Refused}

-- ---- to seven bits

-- the last byte is right; of no bytes, what stands before them is
last_right : Bool → List ℕ → Bool
last_right before [] = before
last_right before (a ∷ b) = last_right (is_right a) b

begins_more : (u : List ℕ) (a : ℕ) (r : Bool) → begins_right (u ++ a ∷ []) r ≡ begins_right u (is_right a)
begins_more [] a r = refl
begins_more (c ∷ u) a r = refl

ends_last : (before : Bool) (b : List ℕ) → begins_right (reverse b) before ≡ last_right before b
unfolding last_right
ends_last before [] = refl
ends_last before (a ∷ b) =
    ap (λ u. begins_right u before) (reverse-append (a ∷ []) b) ∙ begins_more (reverse b) a before
    ∙ ends_last (is_right a) b

-- a text before the end is the text before a right byte, and the SI of a right one
text_closed : (before : Bool) (a : ℕ) → text before a false ≡ text before a true ++ text_at_end (is_right a)
text_closed before a =
    elim (cases_Bool (is_right a)) [
      | inl r ↦ rw r (right_go before)
      | inr r ↦ rw r (sym (append-nil _))
    ]
  where
    right_go : (before : Bool) → cond before [] (0x0E ∷ []) ++ (a - 0x80) ∷ 0x0F ∷ []
        ≡ (cond before [] (0x0E ∷ []) ++ (a - 0x80) ∷ []) ++ 0x0F ∷ []
    right_go true = refl
    right_go false = refl

-- what a byte adds, right or not
added_right : (before : Bool) (x : ℕ) → is_right x ≡ true → text_added before x ≡ text before x true
added_right true x e = rw e refl
added_right false x e = rw e refl

added_left : (before : Bool) (x : ℕ) → is_right x ≡ false
    → text_added before x ≡ text_at_end before ++ text before x true
added_left true x e = rw e refl
added_left false x e = rw e refl

added_first : (x : ℕ) → text false x true ≡ text_added false x
added_first x =
    elim (cases_Bool (is_right x)) [
      | inl e ↦ sym (added_right false x e)
      | inr e ↦ sym (added_left false x e)
    ]

-- two texts are the first before a right byte, and what the second byte adds
text_joined : (before : Bool) (a x : ℕ)
    → text before a (is_right x) ++ text (is_right a) x true ≡ text before a true ++ text_added (is_right a) x
text_joined before a x =
    let second : List ℕ = text (is_right a) x true in
    elim (cases_Bool (is_right x)) [
      | inl e ↦ ap (λ k. text before a k ++ second) e
          ∙ ap (λ w. text before a true ++ w) (sym (added_right (is_right a) x e))
      | inr e ↦ ap (λ k. text before a k ++ second) e ∙ ap (λ w. w ++ second) (text_closed before a)
          ∙ append_assoc (text before a true) (text_at_end (is_right a)) second
          ∙ ap (λ w. text before a true ++ w) (sym (added_left (is_right a) x e))
    ]

texts_more : (before : Bool) (a : ℕ) (b : List ℕ) (x : ℕ)
    → texts before (a ∷ b ++ x ∷ []) true ≡ texts before (a ∷ b) true ++ text_added (last_right before (a ∷ b)) x
unfolding texts last_right
texts_more before a [] x =
    ap (λ w. text before a (is_right x) ++ w) (append-nil (text (is_right a) x true)) ∙ text_joined before a x
    ∙ ap (λ w. w ++ text_added (is_right a) x) (sym (append-nil (text before a true)))
texts_more before a (c ∷ b) x =
    ap (λ w. text before a (is_right c) ++ w) (texts_more (is_right a) c b x)
    ∙ sym (append_assoc (text before a (is_right c)) (texts (is_right a) (c ∷ b) true)
    (text_added (last_right before (a ∷ c ∷ b)) x))

unclosed_by : (b : List ℕ) (x : ℕ) → unclosed (b ++ x ∷ []) ≡ unclosed b ++ text_added (last_right false b) x
unfolding texts last_right
unclosed_by [] x = append-nil (text false x true) ∙ added_first x
unclosed_by (a ∷ b) x = texts_more false a b x

-- one byte more
pub unclosed_more : (b : List ℕ) (x : ℕ) → unclosed (b ++ x ∷ []) ≡ unclosed b ++ text_added (ends_right b) x
unclosed_more b x =
    unclosed_by b x ∙ ap (λ r. unclosed b ++ text_added r x) (sym (ends_last false b))

texts_closed : (before : Bool) (a : ℕ) (b : List ℕ)
    → texts before (a ∷ b) false ≡ texts before (a ∷ b) true ++ text_at_end (last_right before (a ∷ b))
unfolding texts last_right
texts_closed before a [] =
    append-nil (text before a false) ∙ text_closed before a
    ∙ ap (λ w. w ++ text_at_end (is_right a)) (sym (append-nil (text before a true)))
texts_closed before a (c ∷ b) =
    ap (λ w. text before a (is_right c) ++ w) (texts_closed (is_right a) c b)
    ∙ sym (append_assoc (text before a (is_right c)) (texts (is_right a) (c ∷ b) true)
    (text_at_end (last_right before (a ∷ c ∷ b))))

closed_by : (b : List ℕ) → seven b ≡ unclosed b ++ text_at_end (last_right false b)
unfolding texts last_right
closed_by [] = refl
closed_by (a ∷ b) = texts_closed false a b

-- the end
pub seven_closed : (b : List ℕ) → seven b ≡ unclosed b ++ text_at_end (ends_right b)
seven_closed b = closed_by b ∙ ap (λ r. unclosed b ++ text_at_end r) (sym (ends_last false b))

-- ---- from seven bits

onto_reverse : (u h : List ℕ) → onto u h ≡ reverse u ++ h
onto_reverse [] h = refl
onto_reverse (a ∷ u) h =
    onto_reverse u (a ∷ h) ∙ sym (append_assoc (reverse u) (a ∷ []) h)
    ∙ ap (λ w. w ++ h) (sym (reverse-append (a ∷ []) u))

eight_joined : (h s : List ℕ) (a : ℕ)
    → eight_after h (s ++ a ∷ []) ≡ eight_after h s ++ bytes_heard (heard (state_after (onto s h)) a)
unfolding eight_after
eight_joined h [] a = append-nil (bytes_heard (heard (state_after h) a))
eight_joined h (c ∷ s) a =
    ap (λ w. bytes_heard (heard (state_after h) c) ++ w) (eight_joined (c ∷ h) s a)
    ∙ sym (append_assoc (bytes_heard (heard (state_after h) c)) (eight_after (c ∷ h) s)
    (bytes_heard (heard (state_after (onto s (c ∷ h))) a)))

accepted_joined : (h s : List ℕ) (a : ℕ) → accepted_after h s ≡ s → is_refused (state_after (onto s h)) a ≡ false
    → accepted_after h (s ++ a ∷ []) ≡ s ++ a ∷ []
unfolding accepted_after
accepted_joined h [] a p e = rw e refl
accepted_joined h (c ∷ s) a p e =
    joined_go (is_refused (state_after h) c) p (λ rest. accepted_joined (c ∷ h) s a rest e)
  where
    joined_go : (r : Bool) → cond r [] (c ∷ accepted_after (c ∷ h) s) ≡ c ∷ s
        → (accepted_after (c ∷ h) s ≡ s → accepted_after (c ∷ h) (s ++ a ∷ []) ≡ s ++ a ∷ [])
        → cond r [] (c ∷ accepted_after (c ∷ h) (s ++ a ∷ [])) ≡ c ∷ (s ++ a ∷ [])
    joined_go true q more = absurd cc
    joined_go false q more = ap (λ w. c ∷ w) (more cc)

onto_all : (s : List ℕ) → onto s [] ≡ reverse s
onto_all s = onto_reverse s [] ∙ append-nil (reverse s)

-- what one byte more gives
pub eight_more : (s : List ℕ) (t : ShiftState) (a : ℕ) (r : Heard) → Leads s t → r ≡ heard t a
    → eight (s ++ a ∷ []) ≡ eight s ++ bytes_heard r
eight_more s t a r l e =
    eight_joined [] s a
    ∙ ap (λ h. eight s ++ bytes_heard (heard h a)) (ap state_after (onto_all s) ∙ sym l.state)
    ∙ ap (λ q. eight s ++ bytes_heard q) (sym e)

-- a byte that isn't refused isn't answered so, and one that is, is
heard_accepted : (t : ShiftState) (a : ℕ) (r : Heard) → r ≡ heard t a → (r ≡ Refused → ⊥) → is_refused t a ≡ false
heard_accepted t a r e n =
    elim (cases_Bool (is_refused t a)) [ inr f ↦ f | inl f ↦ absurd (n (e ∙ (rw f refl))) ]

state_more : (h : List ℕ) (a : ℕ) → state_with (state_after h) a ≡ state_after (a ∷ h)
unfolding is_shifted
state_more h a = refl

heard_refused : (t : ShiftState) (a : ℕ) → heard t a ≡ Refused → is_refused t a ≡ true
heard_refused t a e = refused_go (is_refused t a) refl
  where
    refused_go : (r : Bool) → is_refused t a ≡ r → r ≡ true
    refused_go true f = refl
    refused_go false f = absurd (kept_go (is_quotable a) t.quoted (is_plain a && t.shifted) (rw f at e))
      where
        kept_go : (q u p : Bool) → cond q Silent (cond u (Byte (a - 0x40)) (cond p (Byte (a + 0x80)) (Byte a))) ≡ Refused
            → ⊥
        kept_go true u p e = cc
        kept_go false true p e = cc
        kept_go false false true e = cc
        kept_go false false false e = cc

accepted_cut : (h s : List ℕ) (a : ℕ) (rest : List ℕ) → accepted_after h s ≡ s
    → is_refused (state_after (onto s h)) a ≡ true → accepted_after h (s ++ a ∷ rest) ≡ s
unfolding accepted_after
accepted_cut h [] a rest p e = rw e refl
accepted_cut h (c ∷ s) a rest p e =
    cut_go (is_refused (state_after h) c) p (λ more. accepted_cut (c ∷ h) s a rest more e)
  where
    cut_go : (r : Bool) → cond r [] (c ∷ accepted_after (c ∷ h) s) ≡ c ∷ s
        → (accepted_after (c ∷ h) s ≡ s → accepted_after (c ∷ h) (s ++ a ∷ rest) ≡ s)
        → cond r [] (c ∷ accepted_after (c ∷ h) (s ++ a ∷ rest)) ≡ c ∷ s
    cut_go true q more = absurd cc
    cut_go false q more = ap (λ w. c ∷ w) (more cc)

-- what is accepted ends at a refused byte
pub accepted_ends : (s rest : List ℕ) (t : ShiftState) (a : ℕ) (r : Heard) → Leads s t → r ≡ heard t a → r ≡ Refused
    → accepted (s ++ a ∷ rest) ≡ s
accepted_ends s rest t a r l e n =
    accepted_cut [] s a rest l.accepted
    (ap (λ h. is_refused h a) (ap state_after (onto_all s) ∙ sym l.state) ∙ heard_refused t a (sym e ∙ n))

-- and where it leads
pub leads_more : (s : List ℕ) (t u : ShiftState) (a : ℕ) (r : Heard) → Leads s t → r ≡ heard t a
    → (r ≡ Refused → ⊥) → u ≡ state_with t a → Leads (s ++ a ∷ []) u
leads_more s t u a r l e n f =
    record {
      accepted = accepted_joined [] s a l.accepted
          (ap (λ h. is_refused h a) (ap state_after (onto_all s) ∙ sym l.state) ∙ heard_accepted t a r e n);
      state = f ∙ ap (λ h. state_with h a) l.state ∙ state_more (reverse s) a
          ∙ ap state_after (sym (reverse-append s (a ∷ [])));
    }

pub leads_nothing : Leads [] (state_after [])
unfolding accepted_after
leads_nothing = record { accepted = refl; state = refl }

-- a text with what one byte more adds
pub text_more : (b front text more : List ℕ) (r : Bool) (x : ℕ) → r ≡ ends_right b → more ≡ text ++ text_added r x
    → front ++ text ≡ unclosed b → front ++ more ≡ unclosed (b ++ x ∷ [])
text_more b front text more r x l e is =
    ap (λ w. front ++ w) e ∙ sym (append_assoc front text (text_added r x)) ∙ ap (λ w. w ++ text_added r x) is
    ∙ ap (λ q. unclosed b ++ text_added q x) l ∙ sym (unclosed_more b x)
