-- One message more of a choice.
use Rattle.std.proofs.Common.{ℕ, ◌≡◌, ◌≢◌, ◌<◌, ◌↔◌, ◌+◌, ◌-◌, Bool, true, false, eqb, List, [], ◌∷◌, ◌++◌, ◌⊎◌, filter, refl, sym, ◌∙◌, ap, append_assoc, append-nil, inl, inr, arith}
use Rattle.std.proofs.lemmas.Bool.{ne_eqb, or_right}
use Rattle.ps_model.specs.declared.mark.Slot.{Slot}
use Rattle.ps_model.specs.declared.mark.Handed.{Handed}
use Rattle.ps_model.specs.Slots.{failures_of}
use Rattle.ps_model.specs.Choice.{handed, first_of_them}

-- nothing more may be handed out
pub first_none : (m b : ℕ) (xs : List Slot) → (m ≡ 0) ⊎ (b ≡ 0) → first_of_them m b xs ≡ []
first_none m b [] h = refl
first_none m b (s ∷ ss) (inl e) = rw e refl
first_none m b (s ∷ ss) (inr e) = rw (e, or_right (eqb m 0) true refl) refl

pub first_some : (m b : ℕ) (s : Slot) (ss : List Slot) → m ≢ 0 → b ≢ 0 → first_of_them m b (s ∷ ss) ≡ s ∷ first_of_them (m - 1) (b - s.item.size) ss
first_some m b s ss hm hb = rw (ne_eqb m 0 hm, ne_eqb b 0 hb) refl

abbrev pub hand : ℕ → Slot → Handed
hand n s = record { number = s.item.number; lease = n; failures = failures_of s.mark }

pub skipped : (p : Slot → Bool) (s : Slot) (ss : List Slot) (n m b : ℕ) → p s ≡ false → handed n (first_of_them m b (filter p (s ∷ ss))) ≡ handed n (first_of_them m b (filter p ss))
skipped p s ss n m b e = rw e refl

pub taken : (p : Slot → Bool) (s : Slot) (ss : List Slot) (n m b : ℕ) → p s ≡ true → m ≢ 0 → b ≢ 0 → handed n (first_of_them m b (filter p (s ∷ ss))) ≡ hand n s ∷ handed (n + 1) (first_of_them (m - 1) (b - s.item.size) (filter p ss))
taken p s ss n m b e hm hb = rw e (ap (handed n) (first_some m b s (filter p ss) hm hb))

pub more_skipped : (p : Slot → Bool) (old all : List Handed) (s : Slot) (left rest : List Slot) (n m b : ℕ) → left ≡ s ∷ rest → p s ≡ false
    → old ++ handed n (first_of_them m b (filter p left)) ≡ all → old ++ handed n (first_of_them m b (filter p rest)) ≡ all
more_skipped p old all s left rest n m b el ep h =
    ap (λ r. old ++ r) (sym (ap (λ l. handed n (first_of_them m b (filter p l))) el ∙ skipped p s rest n m b ep)) ∙ h

pub more_taken : (p : Slot → Bool) (old new all : List Handed) (s : Slot) (left rest : List Slot) (n m b n' m' b' : ℕ) → left ≡ s ∷ rest → p s ≡ true → m ≢ 0 → b ≢ 0
    → new ≡ old ++ hand n s ∷ [] → n' ≡ n + 1 → m' ≡ m - 1 → b' ≡ b - s.item.size
    → old ++ handed n (first_of_them m b (filter p left)) ≡ all → new ++ handed n' (first_of_them m' b' (filter p rest)) ≡ all
more_taken p old new all s left rest n m b n' m' b' el ep hm hb e_new e_n e_m e_b h =
    rw (e_new, e_n, e_m, e_b)
    (append_assoc old (hand n s ∷ []) (handed (n + 1) (first_of_them (m - 1) (b - s.item.size) (filter p rest)))
    ∙ ap (λ r. old ++ r) (sym (ap (λ l. handed n (first_of_them m b (filter p l))) el ∙ taken p s rest n m b ep hm hb)) ∙ h)

-- where nothing more is handed out, what was handed out is all
pub ended : (old all : List Handed) (n : ℕ) (xs : List Slot) → xs ≡ [] → old ++ handed n xs ≡ all → old ≡ all
ended old all n xs e h = sym (append-nil old) ∙ ap (λ l. old ++ handed n l) (sym e) ∙ h

-- what is handed out of a list is empty exactly where the list is
pub empty_choice : (lease most budget : ℕ) (xs : List Slot) → 0 < most → 0 < budget → (handed lease (first_of_them most budget xs) ≡ []) ↔ (xs ≡ [])
empty_choice lease most budget [] hm hb = (λ e. refl, λ e. refl)
empty_choice lease most budget (s ∷ ss) hm hb =
    let nm : most ≢ 0 = omega arith in
    let nb : budget ≢ 0 = omega arith in
    rw (ne_eqb most 0 nm, ne_eqb budget 0 nb) ((λ e. absurd (cc (e))), (λ e. absurd (cc (e))))
