-- Where the parts of a sheet begin.
use Rattle.std.proofs.Common.{◌≡◌, ℕ, zero, suc, ◌<◌, List, [], ◌∷◌, ◌++◌, length, drop, Option}
use Rattle.std.proofs.Common.{Some, None, MatchOption, unwrap_or, map, sym, ap, ◌∙◌, subst, arith}
use Rattle.std.proofs.lemmas.List.{drop_all, map-append}
use Rattle.std.specs.List.{HoldsAt, AllWithin}
use Rattle.std.specs.Prelude.{codes}
use Rattle.sheets.specs.declared.lines.Line.{Line}
use Rattle.sheets.specs.declared.sheet.Sheet.{Sheet}
use Rattle.sheets.specs.Settings.{SaysSettings}
use Rattle.sheets.specs.Sheets.{HeadedBy, line_words, sheet_lines, ReadsLines, ReadsSheet}
use Rattle.sheets.specs.Sheets.{ReadsProgram, ReadsCalls, CallsBehind}

module _ (word : List ℕ) where
  begins_at : (xs : List Line) (i : ℕ) → i < length xs
      → HoldsAt (λ (x : Line). x.first.now ≡ word) xs i → HeadedBy word (drop i xs)
  begins_at [] i lt at = absurd (omega (arith, lt))
  begins_at (x ∷ xs) zero lt at = at x
  begins_at (x ∷ xs) (suc i) lt at = begins_at xs i (omega (arith, lt)) (λ d. at d)

  -- from the first line that begins with the word on
  pub begins : (No : Line → Type 0) (xs back : List Line) (r : Option ℕ)
      → MatchOption r (AllWithin No xs 0 (length xs))
      (λ i. (i < length xs) × HoldsAt (λ (x : Line). x.first.now ≡ word) xs i × AllWithin No xs 0 i)
      → (mid : ℕ) → mid ≡ unwrap_or r (length xs) → back ≡ drop mid xs → HeadedBy word back
  begins No xs back None none mid at is =
      subst (HeadedBy word) (sym (is ∙ drop_all mid xs (omega (arith, at)))) tt
  begins No xs back (Some i) (lt, holds, before) mid at is =
      subst (HeadedBy word) (sym (is ∙ ap (λ n. drop n xs) at)) (begins_at xs i lt holds)

  pub begins_front : (xs ys all : List Line) → all ≡ xs ++ ys → HeadedBy word all
      → HeadedBy word xs
  begins_front [] ys all is b = tt
  begins_front (x ∷ xs) ys all is b = subst (HeadedBy word) is b

header : (first word : List ℕ) (rest : List (List ℕ)) → first ≡ word → rest ≡ []
    → first ∷ rest ≡ word ∷ []
header first word rest e f = ap (λ w. w ∷ rest) e ∙ ap (λ ws. word ∷ ws) f

module _ {L : Type 0} (text : L → List ℕ) where
  calls_behind : (calls : List Line) (sheet : Sheet L) → HeadedBy (codes "calls") calls
      → ReadsCalls text calls sheet.calls.items
      → CallsBehind text (map line_words calls) sheet.calls.items
  calls_behind [] sheet begins reads = reads
  calls_behind (x ∷ more) sheet begins (alone, said) =
      (header x.first.now (codes "calls") _ begins alone, said)

  from_parts : (bottom : L) (bytes : List ℕ) (all before program calls : List Line)
      (sheet : Sheet L) → map line_words all ≡ sheet_lines bytes
      → all ≡ before ++ (program ++ calls) → HeadedBy (codes "program") program
      → HeadedBy (codes "calls") calls
      → SaysSettings text bottom (map line_words before) sheet.memory.items sheet.stack sheet.log
      → ReadsProgram text program sheet.program.items → ReadsCalls text calls sheet.calls.items
      → ReadsSheet text bottom bytes sheet
  from_parts bottom bytes all before [] calls sheet lines is b c settings reads made = absurd reads
  from_parts bottom bytes all before (x ∷ body) calls sheet lines is b c settings (alone, said) made =
      let cut =
      sym lines ∙ ap (λ (l : List Line). map line_words l) is
      ∙ map-append line_words before ((x ∷ body) ++ calls)
      ∙ ap (λ (l : List (List (List ℕ))). map line_words before ++ l)
      (map-append line_words (x ∷ body) calls) in
      let head = header x.first.now (codes "program") _ b alone in (
        map line_words before,
        map line_words body,
        map line_words calls,
        cut
            ∙ ap (λ h. map line_words before ++ ((h ∷ map line_words body) ++ map line_words calls))
            head,
        settings,
        said,
        calls_behind calls sheet c made,
      )

  pub whole : (bottom : L) (bytes : List ℕ) (all : List Line) (sheet : Sheet L)
      → map line_words all ≡ sheet_lines bytes → ReadsLines text bottom all sheet
      → ReadsSheet text bottom bytes sheet
  whole bottom bytes all sheet lines (before, program, calls, is, b, c, settings, reads, made) =
      from_parts bottom bytes all before program calls sheet lines is b c settings reads made
