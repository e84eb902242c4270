-- More bytes change nothing of what was made of those before them.
use Rattle.std.proofs.Common.{◌≡◌, ℕ, Bool, true, false, cond, List, [], ◌∷◌, ◌++◌, refl, sym, ap, ◌∙◌}
use Rattle.std.proofs.lemmas.List.{append_assoc, append-nil}
use Rattle.cept_seven.specs.Seven.{ends_right, seven, unclosed, text_added, text_at_end}
use Rattle.cept_seven.specs.Eight.{state_after, is_refused, heard, bytes_heard, eight_after, eight, accepted_after, accepted}
use Rattle.cept_seven.specs.Eight.{AreAccepted}
use Rattle.cept_seven.proofs.Onto.{onto}
use Rattle.cept_seven.proofs.PushLemmas.{unclosed_more, seven_closed}

-- ---- to seven bits

unclosed_begins : (b rest : List ℕ) → (others : List ℕ) × (unclosed (b ++ rest) ≡ unclosed b ++ others)
unclosed_begins b [] = ([], ap unclosed (append-nil b) ∙ sym (append-nil (unclosed b)))
unclosed_begins b (x ∷ rest) =
    let more = unclosed_begins (b ++ x ∷ []) rest in
    let added : List ℕ = text_added (ends_right b) x in (
      added ++ more.0,
      ap unclosed (sym (append_assoc b (x ∷ []) rest)) ∙ more.1 ∙ ap (λ w. w ++ more.0) (unclosed_more b x)
          ∙ append_assoc (unclosed b) added more.0,
    )

pub seven_begins : (b rest : List ℕ) → (others : List ℕ) × (seven (b ++ rest) ≡ unclosed b ++ others)
seven_begins b rest =
    let more = unclosed_begins b rest in
    let end : List ℕ = text_at_end (ends_right (b ++ rest)) in (
      more.0 ++ end,
      seven_closed (b ++ rest) ∙ ap (λ w. w ++ end) more.1 ∙ append_assoc (unclosed b) more.0 end,
    )

-- ---- back in eight

accepted_begins : (h s rest : List ℕ)
    → (others : List ℕ) × (accepted_after h (s ++ rest) ≡ accepted_after h s ++ others)
unfolding accepted_after
accepted_begins h [] rest = (accepted_after h rest, refl)
accepted_begins h (a ∷ s) rest = begins_go (is_refused (state_after h) a) (accepted_begins (a ∷ h) s rest)
  where
    begins_go : (r : Bool)
        → (others : List ℕ) × (accepted_after (a ∷ h) (s ++ rest) ≡ accepted_after (a ∷ h) s ++ others)
        → (others : List ℕ) × (cond r [] (a ∷ accepted_after (a ∷ h) (s ++ rest))
        ≡ cond r [] (a ∷ accepted_after (a ∷ h) s) ++ others)
    begins_go true more = ([], refl)
    begins_go false more = (more.0, ap (λ w. a ∷ w) more.1)

eight_joins : (h a b : List ℕ) → eight_after h (a ++ b) ≡ eight_after h a ++ eight_after (onto a h) b
unfolding eight_after
eight_joins h [] b = refl
eight_joins h (c ∷ a) b =
    ap (λ w. bytes_heard (heard (state_after h) c) ++ w) (eight_joins (c ∷ h) a b)
    ∙ sym (append_assoc (bytes_heard (heard (state_after h) c)) (eight_after (c ∷ h) a) (eight_after (onto a (c ∷ h)) b))

pub eight_begins : (s rest : List ℕ)
    → (others : List ℕ) × (eight (accepted (s ++ rest)) ≡ eight (accepted s) ++ others)
eight_begins s rest =
    let more = accepted_begins [] s rest in (
      eight_after (onto (accepted s) []) more.0,
      ap eight more.1 ∙ eight_joins [] (accepted s) more.0,
    )

front_accepted_after : (h s rest : List ℕ) → accepted_after h (s ++ rest) ≡ s ++ rest → accepted_after h s ≡ s
unfolding accepted_after
front_accepted_after h [] rest e = refl
front_accepted_after h (a ∷ s) rest e =
    front_go (is_refused (state_after h) a) e (λ f. front_accepted_after (a ∷ h) s rest f)
  where
    front_go : (r : Bool) → cond r [] (a ∷ accepted_after (a ∷ h) (s ++ rest)) ≡ a ∷ (s ++ rest)
        → (accepted_after (a ∷ h) (s ++ rest) ≡ s ++ rest → accepted_after (a ∷ h) s ≡ s)
        → cond r [] (a ∷ accepted_after (a ∷ h) s) ≡ a ∷ s
    front_go true q more = absurd cc
    front_go false q more = ap (λ w. a ∷ w) (more cc)

pub front_accepted : (s rest : List ℕ) → AreAccepted (s ++ rest) → AreAccepted s
front_accepted s rest = front_accepted_after [] s rest
