-- Calls of a list, made one by one.
use Rattle.std.proofs.Common.{◌≡◌, ℕ, ◌+◌, ◌<◌, List, [], ◌∷◌, ◌++◌, Some, refl, sym, ap, ◌∙◌, arith, take}
use Rattle.std.proofs.Common.{drop, length, get_or, slice_set}
use Rattle.std.proofs.lemmas.List.{get_or-drop, take_more, take_more_set, drop-set-lt, length-set}
use Rattle.std.proofs.lemmas.Grind.{drop_more_same}
use Rattle.labels.specs.Kind.{Kind}
use Rattle.rules.specs.declared.Policy.{Ghosts as Policy}
use Rattle.steps.specs.Operations.{StaysTrue}
use Rattle.sites.specs.Calls.{Does, Refuses, Asking}
use Rattle.sites.specs.Sites.{Installed, Untouched, sizes_of}
use Rattle.sites.specs.declared.lending.Parts.{Parts}
use Rattle.sites.specs.declared.replies.Reply.{Reply}
use Rattle.compare.specs.Runs.{Exchanged, Plays, over, next}
use Rattle.compare.specs.declared.exchanges.Exchange.{Exchange}
use Rattle.compare.specs.declared.exchanges.Lent.TheVariants.{Own, Others}

module _ {P L : Type 0} (kind : Kind L) (policy : Policy P L) where
  module _ (before : Installed P L) (e : Exchange L) (left : Installed P L) (reply : Reply L) where
    pub own_exchanged : e.lent ≡ Own
        → Does kind (policy.faithful before.policy) before.sited e.call left.sited reply
        → StaysTrue policy before.policy left.policy
        → ((Asking before.sited.station e.call → ⊥) → left.policy ≡ before.policy)
        → Exchanged kind policy before e left (record { call = e.call; lent = e.lent; reply = Some reply })
    own_exchanged is does still unasked =
        record { same_call = refl; reply = reply; kept = refl; meets = rw is (does, still, unasked) }

    pub others_exchanged : (parts parts' : Parts L) → e.lent ≡ Others parts
        → Refuses before.sited (sizes_of parts) e.call left.sited reply → Untouched parts parts'
        → left.policy ≡ before.policy
        → Exchanged kind policy before e left (record { call = e.call; lent = Others parts'; reply = Some reply })
    others_exchanged parts parts' is refuses untouched same =
        record { same_call = refl; reply = reply; kept = refl; meets = rw is (refuses, untouched, same) }

  -- one call more
  pub then : {site between left : Installed P L} {asked told : List (Exchange L)} {e e' : Exchange L}
      → Plays kind policy site asked told between → Exchanged kind policy between e left e'
      → Plays kind policy site (asked ++ (e ∷ [])) (told ++ (e' ∷ [])) left
  then over exchanged = next exchanged over
  then (next first plays) exchanged = next first (then plays exchanged)

-- the element at a place, of lists that are the same from there on
same_there : {A : Type 0} (xs ys : List A) (i : ℕ) (d : A) → drop i xs ≡ drop i ys → get_or xs i d ≡ get_or ys i d
same_there xs ys i d same =
    let there : i + 0 ≡ i = omega arith in
    ap (λ k. get_or xs k d) (sym there) ∙ sym (get_or-drop i xs 0 d) ∙ ap (λ zs. get_or zs 0 d) same
    ∙ get_or-drop i ys 0 d ∙ ap (λ k. get_or ys k d) there

module _ {P L : Type 0} (kind : Kind L) (policy : Policy P L) {site between left : Installed P L}
    (asked told : List (Exchange L)) (i : ℕ) (e e' : Exchange L) where
  -- The call at a place is made: as many are then made as stand before the next.
  pub made_more : i < length told → length told ≡ length asked → drop i told ≡ drop i asked
      → Plays kind policy site (take i asked) (take i told) between
      → Exchanged kind policy between (get_or told i e) left e'
      → Plays kind policy site (take (i + 1) asked) (take (i + 1) (slice_set told i e')) left
      × (drop (i + 1) (slice_set told i e') ≡ drop (i + 1) asked)
      × (length (slice_set told i e') ≡ length asked)
  made_more inside lens same plays exchanged =
      let inside' : i < length asked = omega arith in
      let there : get_or asked i e ≡ get_or told i e = sym (same_there told asked i e same) in (
        rw (take_more_set told i e' inside, take_more asked i e inside', there) (then kind policy plays exchanged),
        drop-set-lt (i + 1) told i e' (omega arith) ∙ drop_more_same told asked i same,
        length-set told i e' ∙ lens,
      )
