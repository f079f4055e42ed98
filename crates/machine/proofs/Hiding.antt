-- Labels that an observer at o may know, and labels that are hidden from him.
use Rattle.std.proofs.Common.{◌≡◌, true, false, ◌⊎◌, sym, refl, ◌∙◌, ap₂, inl, inr, true≢false}
use Rattle.labels.specs.Kind.{Kind, Lawful}

module _ {L : Type 0} (kind : Kind L) (o : L) where
  open kind use {below}

  abbrev pub Visible : L → Type 0
  Visible l = below l o ≡ true

  abbrev pub Hidden : L → Type 0
  Hidden l = below l o ≡ false

  -- If l is hidden then so is m.
  abbrev pub Covers : L → L → Type 0
  Covers l m = Hidden l → Hidden m

  -- labels alike: the same, or both hidden
  abbrev pub AlikeLabels : L → L → Type 0
  AlikeLabels l m = (l ≡ m) ⊎ (Hidden l × Hidden m)

  pub visible_or_hidden : (l : L) → Visible l ⊎ Hidden l
  visible_or_hidden l = elim (below l o) as (λ b. (b ≡ true) ⊎ (b ≡ false)) [ true ↦ inl refl | false ↦ inr refl ]

  pub never_both : {A : Type 0} (l : L) → Visible l → Hidden l → A
  never_both l v h = absurd (true≢false (sym v ∙ h))

module _ {L : Type 0} {kind : Kind L} (laws : Lawful kind) (o : L) where
  open kind use {below, join}

  pub upward : (l m : L) → below l m ≡ true → Covers kind o l m
  upward l m le h = either (visible_or_hidden kind o m)
    where
      either : Visible kind o m ⊎ Hidden kind o m → Hidden kind o m
      either (inl v) = never_both kind o l (laws.transitive l m o le v) h
      either (inr k) = k

  pub join_left : (l m : L) → Covers kind o l (join l m)
  join_left l m = upward l (join l m) (laws.left l m)

  pub join_right : (l m : L) → Covers kind o m (join l m)
  join_right l m = upward m (join l m) (laws.right l m)

  pub join_alike : {a b c d : L} → AlikeLabels kind o a b → AlikeLabels kind o c d
      → AlikeLabels kind o (join a c) (join b d)
  join_alike (inl e) (inl f) = inl (ap₂ join e f)
  join_alike {a} {b} {c} {d} (inl e) (inr h) = inr (join_right a c h.0, join_right b d h.1)
  join_alike {a} {b} {c} {d} (inr h) k = inr (join_left a c h.0, join_left b d h.1)
