-- Names in byte order.
use Rattle.std.proofs.Common.{◌≡◌, ◌≢◌, ℕ, true, false, List, refl, ap, ◌∙◌, Ordering}
use Rattle.std.specs.Cmp.Lexicographic.{slice_cmp}
use Rattle.std.specs.Ordering.{is_lt, nat_cmp, ordering_reverse}
use Rattle.std.specs.declared.cmp.Ordering.TheVariants.{Less, Equal, Greater}
use Rattle.std.proofs.lemmas.Bool.{both_ways}
use Rattle.std.proofs.lemmas.Cmp.{nat_list_cmp_total}
use Rattle.std.proofs.lemmas.Map.Lookups.{exact_bytes}
use Rattle.ps_base.specs.Keys.{is_below}
use Rattle.ps_model.specs.Sound.{Ordered}

less : (o : Ordering) → is_lt o ≡ true → o ≡ Less
less Less h = refl
less Equal h = absurd (cc (h))
less Greater h = absurd (cc (h))

pub below-trans : (a b c : List ℕ) → is_below a b ≡ true → is_below b c ≡ true → is_below a c ≡ true
below-trans a b c ab bc = ap is_lt (nat_list_cmp_total.trans a b c (less _ ab) (less _ bc))

-- of two names that differ, one is below the other
pub below-other : (a b : List ℕ) → is_below a b ≡ false → a ≢ b → is_below b a ≡ true
below-other a b h ne = by (slice_cmp nat_cmp a b) refl h
  where
    by : (o : Ordering) → slice_cmp nat_cmp a b ≡ o → is_lt o ≡ false → is_below b a ≡ true
    by Less e h = absurd (cc (h))
    by Equal e h = absurd (ne (exact_bytes a b e))
    by Greater e h = ap is_lt (nat_list_cmp_total.antisymm b a ∙ ap ordering_reverse e)

pub below-irrefl : (a b : List ℕ) → is_below a b ≡ true → a ≢ b
below-irrefl a b h e = both_ways (is_below a b) (ap (λ c. is_below c b) e ∙ own b) h
  where
    own : (b : List ℕ) → is_below b b ≡ false
    own b = by (slice_cmp nat_cmp b b) (nat_list_cmp_total.antisymm b b)
      where
        by : (o : Ordering) → o ≡ ordering_reverse o → is_lt o ≡ false
        by Less e = absurd (cc (e))
        by Equal e = refl
        by Greater e = refl

-- the names of these values go up
abbrev pub Up : {A : Type 0} → (A → List ℕ) → List A → Type 0
Up name xs = Ordered (λ a b. is_below (name a) (name b) ≡ true) xs
