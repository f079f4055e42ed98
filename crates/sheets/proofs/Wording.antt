-- The lines with words, one more at a time.
use Rattle.std.proofs.Common.{◌≡◌, ℕ, List, [], ◌∷◌, ◌++◌, map, refl, sym, ap, ◌∙◌, append-nil}
use Rattle.std.proofs.lemmas.List.{map-append}
use Rattle.std.specs.Borrow.{Bor}
use Rattle.text.specs.Words.{words, uncommented}
use Rattle.sheets.specs.declared.lines.Line.{Line}
use Rattle.sheets.specs.Sheets.{line_words, worded, worded_lines}

worded_append : (ws : List (List ℕ)) (a b : List (List (List ℕ)))
    → worded ws (a ++ b) ≡ worded ws a ++ b
worded_append [] a b = refl
worded_append (w ∷ ws) a b = refl

worded_push : (ls : List (List ℕ)) (l : List ℕ)
    → worded_lines (ls ++ l ∷ []) ≡ worded_lines ls ++ worded (words (uncommented l)) []
worded_push [] l = refl
worded_push (x ∷ ls) l =
    let ws = words (uncommented x) in
    ap (λ more. worded ws more) (worded_push ls l) ∙ worded_append ws (worded_lines ls) _

now_push : (xs : List (Bor (List ℕ))) (x : Bor (List ℕ))
    → map (λ y. y.now) (xs ++ x ∷ []) ≡ map (λ y. y.now) xs ++ x.now ∷ []
now_push xs x = map-append (λ y. y.now) xs (x ∷ [])

module _ (xs : List (Bor (List ℕ))) (x : Bor (List ℕ)) where
  push : worded_lines (map (λ y. y.now) (xs ++ x ∷ []))
      ≡ worded_lines (map (λ y. y.now) xs) ++ worded (words (uncommented x.now)) []
  push = ap worded_lines (now_push xs x) ∙ worded_push (map (λ y. y.now) xs) x.now

  -- a line with words comes behind the others
  pub kept : (old all : List Line) (line : Line) → all ≡ old ++ line ∷ []
      → map line_words old ≡ worded_lines (map (λ y. y.now) xs)
      → line_words line ≡ words (uncommented x.now)
      → map line_words all ≡ worded_lines (map (λ y. y.now) (xs ++ x ∷ []))
  kept old all line is before same =
      ap (λ (l : List Line). map line_words l) is ∙ map-append line_words old (line ∷ [])
      ∙ ap (λ (l : List (List (List ℕ))). l ++ line_words line ∷ []) before
      ∙ ap (λ ws. worded_lines (map (λ y. y.now) xs) ++ worded ws []) same ∙ sym push

  -- a line without words adds nothing
  pub passed : (old : List Line) → map line_words old ≡ worded_lines (map (λ y. y.now) xs)
      → words (uncommented x.now) ≡ []
      → map line_words old ≡ worded_lines (map (λ y. y.now) (xs ++ x ∷ []))
  passed old before none =
      before ∙ sym (append-nil _)
      ∙ ap (λ ws. worded_lines (map (λ y. y.now) xs) ++ worded ws []) (sym none) ∙ sym push
