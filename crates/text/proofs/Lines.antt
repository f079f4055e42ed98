-- Blanks, the words between them, and what stands before a comment.
use Rattle.std.proofs.Common.{◌≡◌, ℕ, suc, zero, ◌+◌, ◌<◌, ◌≤◌, eqb, nat_lt, Bool, true, false, cond, not}
use Rattle.std.proofs.Common.{Option, Some, None, MatchOption, unwrap_or}
use Rattle.std.proofs.Common.{List, [], ◌∷◌, length, take, drop, length-drop, IsUtf8}
use Rattle.std.proofs.Common.{refl, sym, ap, ◌∙◌, subst, ⊎_elim, add-one, arith, ltb-false, lit<}
use Rattle.std.proofs.lemmas.Grind.{common_steps}
use Rattle.std.proofs.lemmas.Bool.{cases_Bool}
use Rattle.std.proofs.lemmas.Bool.Decides.{nat_tests}
use Rattle.std.proofs.lemmas.List.{take_all, drop_all}
use Rattle.std.proofs.lemmas.List.Quantifiers.{position-Some}
use Rattle.std.proofs.lemmas.List.Sums.{passes_at_first, prefix_len-le-length}
use Rattle.std.proofs.lemmas.Str.{IsCharBoundary-start, IsCharBoundary-end}
use Rattle.std.proofs.lemmas.Str.{IsCharBoundary-before_ascii, IsCharBoundary-after_ascii}
use Rattle.std.proofs.lemmas.Str.Pattern.{IsSplitOnceResult, split_once_first}
use Rattle.std.proofs.str.Laws.{order}
use Rattle.std.specs.Borrow.{Bor}
use Rattle.std.specs.List.{position, position_or_len, before_first}
use Rattle.std.specs.Str.{IsCharBoundary}
use Rattle.text.specs.Words.{blank, dark, uncommented, word, words_in, words, trimmed, behind}

-- A blank is ASCII, so that no character is cut before or behind it.

blank_low : (b : ℕ) → blank b ≡ true → b < 128
blank_low b e = grind (arith, nat_tests)

not_dark : (t : Bool) → not t ≡ false → t ≡ true
not_dark true e = refl
not_dark false e = sym e

-- where the first byte stands that is no blank
pub word_whole : (bs : List ℕ) (n : ℕ) → IsUtf8 bs → position dark bs ≡ Some n → IsCharBoundary bs n
word_whole bs zero u e = IsCharBoundary-start bs u
word_whole bs (suc n) u e =
    let (inside, here, before) = position-Some dark bs (suc n) 0 e in
    let low = blank_low _ (not_dark _ (before n (omega arith))) in
    subst (IsCharBoundary bs) (add-one n) (IsCharBoundary-after_ascii bs n u (omega (arith, inside)) low)

-- where the first blank stands, or at the end
pub blank_whole : (bs : List ℕ) → IsCharBoundary bs (position_or_len blank bs)
blank_whole bs =
    ⊎_elim
    (λ h. IsCharBoundary-before_ascii bs _ h (blank_low _ (passes_at_first blank bs 0 h)))
    (λ h. let e : length bs ≡ position_or_len blank bs = omega (arith, h, prefix_len-le-length (λ b. not (blank b)) bs) in
    subst (IsCharBoundary bs) e (IsCharBoundary-end bs))
    (order (position_or_len blank bs) (length bs))

-- the place that is searched for, or the length
pub found_or : {X : Type 0} (p : X → Bool) (xs : List X) (o : Option ℕ) → o ≡ position p xs
    → unwrap_or o (length xs) ≡ position_or_len p xs
found_or p xs o is =
    rw is
    (⊎_elim
    (λ e. rw e refl)
    (λ e. rw e (omega (arith, ltb-false _ _ e, prefix_len-le-length (λ x. not (p x)) xs)))
    (cases_Bool (nat_lt (position_or_len p xs) (length xs))))

-- What goes up to the first byte that p takes, and what comes from the first blank on.

take_on : (t : Bool) (b n : ℕ) (bs front : List ℕ) → front ≡ take n bs
    → cond t [] (b ∷ front) ≡ take (cond (not t) (1 + n) 0) (b ∷ bs)
take_on true b n bs front e = refl
take_on false b n bs front e =
    let more : suc n ≡ 1 + n = omega arith in
    subst (λ k. b ∷ front ≡ take k (b ∷ bs)) more (ap (λ l. b ∷ l) e)

drop_on : (t : Bool) (b n : ℕ) (bs back : List ℕ) → back ≡ drop n bs
    → cond t (b ∷ bs) back ≡ drop (cond (not t) (1 + n) 0) (b ∷ bs)
drop_on true b n bs back e = refl
drop_on false b n bs back e =
    let more : suc n ≡ 1 + n = omega arith in subst (λ k. back ≡ drop k (b ∷ bs)) more e

uncommented_first : (bs : List ℕ) → uncommented bs ≡ before_first (λ b. eqb b 35) bs
uncommented_first [] = refl
uncommented_first (b ∷ bs) = take_on (eqb b 35) b _ bs (uncommented bs) (uncommented_first bs)

word_first : (bs : List ℕ) → word bs ≡ before_first blank bs
word_first [] = refl
word_first (b ∷ bs) = take_on (blank b) b _ bs (word bs) (word_first bs)

behind_first : (bs : List ℕ) → behind bs ≡ drop (position_or_len blank bs) bs
behind_first [] = refl
behind_first (b ∷ bs) = drop_on (blank b) b _ bs (behind bs) (behind_first bs)

turned : (t : Bool) (xs ys : List ℕ) → cond t xs ys ≡ cond (not t) ys xs
turned true xs ys = refl
turned false xs ys = refl

trimmed_first : (bs : List ℕ) → trimmed bs ≡ drop (position_or_len dark bs) bs
trimmed_first [] = refl
trimmed_first (b ∷ bs) =
    turned (blank b) (trimmed bs) (b ∷ bs) ∙ drop_on (dark b) b _ bs (trimmed bs) (trimmed_first bs)

-- The words of a line.

words_on : (bs : List ℕ) → words_in true bs ≡ words (behind bs)
words_on [] = refl
words_on (b ∷ bs) =
    ⊎_elim (λ e. rw e (rw e refl)) (λ e. rw e (words_on bs)) (cases_Bool (blank b))

words_trimmed : (bs : List ℕ) → words bs ≡ words (trimmed bs)
words_trimmed [] = refl
words_trimmed (b ∷ bs) =
    ⊎_elim (λ e. rw e (words_trimmed bs)) (λ e. rw e (rw e refl)) (cases_Bool (blank b))

first_word : (bs : List ℕ) → 0 < length (trimmed bs)
    → words bs ≡ word (trimmed bs) ∷ words (behind (trimmed bs))
first_word [] h = absurd (omega arith)
first_word (b ∷ bs) h =
    ⊎_elim
    (λ e. rw e (first_word bs (rw e at h)))
    (λ e. rw e (rw e (ap (λ ws. (b ∷ word bs) ∷ ws) (words_on bs))))
    (cases_Bool (blank b))

-- with no byte but blanks there is no word
pub no_words : (line : List ℕ) → position dark line ≡ None → words line ≡ []
no_words line e =
    let all : length line ≤ position_or_len dark line = grind (arith, common_steps) in
    words_trimmed line ∙ ap words (trimmed_first line ∙ drop_all (position_or_len dark line) line all)

module _ (line rest : List ℕ) (start : ℕ) (found : position dark line ≡ Some start) (back : rest ≡ drop start line) where
  trimmed_is : rest ≡ trimmed line
  trimmed_is =
      let at : position_or_len dark line ≡ start = grind (arith, common_steps) in
      back ∙ sym (ap (λ n. drop n line) at) ∙ sym (trimmed_first line)

  some_left : 0 < length rest
  some_left =
      let inside = (position-Some dark line start 0 found).0 in
      rw back (omega (arith, inside, length-drop start line))

  pub next : (end : ℕ) (front more : List ℕ) → end ≡ position_or_len blank rest
      → front ≡ take end rest → more ≡ drop end rest
      → (words line ≡ front ∷ words more) × (more ≡ behind (trimmed line))
  next end front more at taken dropped =
      let first : front ≡ word (trimmed line) =
      taken ∙ ap (λ k. take k rest) at ∙ sym (word_first rest) ∙ ap word trimmed_is in
      let after : more ≡ behind (trimmed line) =
      dropped ∙ ap (λ k. drop k rest) at ∙ sym (behind_first rest) ∙ ap behind trimmed_is in
      let long = subst (λ (l : List ℕ). 0 < length l) trimmed_is some_left in
      (rw (first, after) (first_word line long), after)

-- What stands before the comment.
pub before : (line rest : List ℕ) (o : Option (Bor (List ℕ) × Bor (List ℕ)))
    → IsSplitOnceResult 35 line o
    → MatchOption o (rest ≡ line) (λ x. rest ≡ x.0.now) → rest ≡ uncommented line
before line rest None h is =
    let none = split_once_first 35 line None h (lit< tt) in
    is ∙ sym (uncommented_first line ∙ take_all _ line (omega (arith, none)))
before line rest (Some x) h is =
    is ∙ (split_once_first 35 line (Some x) h (lit< tt)).1 ∙ sym (uncommented_first line)
