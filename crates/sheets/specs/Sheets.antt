-- What the lines of a sheet say together.
use Rattle.std.specs.Prelude.{◌≡◌, ℕ, ◌⊎◌, List, [], ◌∷◌, ◌++◌, codes, map, Option, Some, None}
use Rattle.std.specs.Str.Lines.{lines}
use Rattle.machine.specs.declared.parts.Operation.{Operation}
use Rattle.machine.specs.declared.calls.Call.{Call}
use Rattle.text.specs.Words.{words, uncommented}
use Rattle.sheets.specs.declared.lines.Line.{Line}
use Rattle.sheets.specs.declared.sheet.Sheet.{Sheet}
use Rattle.sheets.specs.Lines.{SaysOperation, SaysCall}
use Rattle.sheets.specs.Settings.{SaysSettings}

-- the words of a line
abbrev pub line_words : Line → List (List ℕ)
line_words line = line.first.now ∷ words line.rest.0.now

-- what the text of a line gives: the line with its words, if it has any in front of a comment
abbrev pub GivesLine : List ℕ → Option Line → Type 0
GivesLine text None = words (uncommented text) ≡ []
GivesLine text (Some line) = line_words line ≡ words (uncommented text)

-- a line's words, if there are any, before those of other lines
abbrev pub worded : List (List ℕ) → List (List (List ℕ)) → List (List (List ℕ))
worded [] more = more
worded (w ∷ ws) more = (w ∷ ws) ∷ more

-- the words of each of the lines that has any
abbrev pub worded_lines : List (List ℕ) → List (List (List ℕ))
worded_lines [] = []
worded_lines (line ∷ more) = worded (words (uncommented line)) (worded_lines more)

-- the words of each line of a text that has any
abbrev pub sheet_lines : List ℕ → List (List (List ℕ))
sheet_lines text = worded_lines (lines text)

-- the first line, if there is one, begins with the word
abbrev pub HeadedBy : List ℕ → List Line → Type 0
HeadedBy word [] = Unit {0}
HeadedBy word (line ∷ more) = line.first.now ≡ word

-- a name with a colon, alone
abbrev pub NamesPlace : List (List ℕ) → Type 0
NamesPlace line = (name : List ℕ) × (line ≡ (name ++ codes ":") ∷ [])

module _ {L : Type 0} (text : L → List ℕ) where
  -- the lines say the operations, one each and in their order; those between them name places
  abbrev pub SaysProgram : List (List (List ℕ)) → List (Operation L) → Type 0
  SaysProgram [] [] = Unit {0}
  SaysProgram [] (op ∷ ops) = ⊥
  SaysProgram (line ∷ more) [] = NamesPlace line × SaysProgram more []
  SaysProgram (line ∷ more) (op ∷ ops) =
      (NamesPlace line × SaysProgram more (op ∷ ops))
      ⊎ (SaysOperation text line op × SaysProgram more ops)

  -- the line adds nothing to the operations, or the one that it says
  abbrev pub Adds : List (List ℕ) → List (Operation L) → List (Operation L) → Type 0
  Adds line before after =
      (NamesPlace line × (after ≡ before))
      ⊎ ((op : Operation L) × SaysOperation text line op × (after ≡ before ++ op ∷ []))

  -- the lines say the calls, one line each and in their order
  abbrev pub SaysCalls : List (List (List ℕ)) → List (Call L) → Type 0
  SaysCalls [] [] = Unit {0}
  SaysCalls [] (call ∷ calls) = ⊥
  SaysCalls (line ∷ more) [] = ⊥
  SaysCalls (line ∷ more) (call ∷ calls) = SaysCall text line call × SaysCalls more calls

  -- the program's first line is its header alone, and those behind it say the operations
  abbrev pub ReadsProgram : List Line → List (Operation L) → Type 0
  ReadsProgram [] ops = ⊥
  ReadsProgram (header ∷ body) ops =
      (words header.rest.0.now ≡ []) × SaysProgram (map line_words body) ops

  -- and so with the calls, which may be left out with their header
  abbrev pub ReadsCalls : List Line → List (Call L) → Type 0
  ReadsCalls [] calls = calls ≡ []
  ReadsCalls (header ∷ body) calls =
      (words header.rest.0.now ≡ []) × SaysCalls (map line_words body) calls

  -- the lines are those before the program, the program's and the calls'
  abbrev pub ReadsLines : L → List Line → Sheet L → Type 0
  ReadsLines bottom all sheet =
      (before program calls : List Line) × (all ≡ before ++ (program ++ calls))
      × HeadedBy (codes "program") program × HeadedBy (codes "calls") calls
      × SaysSettings text bottom (map line_words before) sheet.memory.items sheet.stack sheet.log
      × ReadsProgram program sheet.program.items × ReadsCalls calls sheet.calls.items

  -- the calls' header stands alone, and the lines behind it say the calls
  abbrev pub CallsBehind : List (List (List ℕ)) → List (Call L) → Type 0
  CallsBehind [] calls = calls ≡ []
  CallsBehind (header ∷ body) calls = (header ≡ codes "calls" ∷ []) × SaysCalls body calls

  -- Of a text's lines with words, those before `program` say the memory and how long stack and log
  -- are, those behind it the operations of the sheet, and those behind `calls` its calls. A cell
  -- that no line says holds 0 with the label `bottom`.
  abbrev pub ReadsSheet : L → List ℕ → Sheet L → Type 0
  ReadsSheet bottom bytes sheet =
      (before body behind : List (List (List ℕ)))
      × (sheet_lines bytes ≡ before ++ (((codes "program" ∷ []) ∷ body) ++ behind))
      × SaysSettings text bottom before sheet.memory.items sheet.stack sheet.log
      × SaysProgram body sheet.program.items × CallsBehind behind sheet.calls.items
