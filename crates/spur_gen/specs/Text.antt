-- The generator's text, by its lines.
use Rattle.std.specs.Prelude.{ℕ, zero, suc, ◌+◌, ◌*◌, ◌%◌, List, [], ◌∷◌, ◌++◌, codes}
use Rattle.std.specs.Fmt.{decimal}
use Rattle.std.specs.List.{flat_map}

-- lines, a line feed behind each
abbrev pub lines_text : List (List ℕ) → List ℕ
lines_text lines = flat_map (λ line. line ++ 10 ∷ []) lines

-- the numbers below n, in ascending order
abbrev pub up_to : ℕ → List ℕ
up_to zero = []
up_to (suc n) = up_to n ++ n ∷ []

-- what a board adds to each page's word
abbrev pub step_of : ℕ → ℕ → ℕ
step_of number board = (number + 17 * board) % 1000 + 1

-- the first line: a comment with the three numbers
unfoldable pub comment_line : ℕ → ℕ → ℕ → List ℕ
comment_line number boards pages =
    lines_text ((codes "; gen " ++ decimal number ++ codes " " ++ decimal boards ++ codes " " ++ decimal pages) ∷ [])

-- the line of a page of segment 0
unfoldable pub page_line : ℕ → List ℕ
page_line page = lines_text ((codes ".page 0 " ++ decimal page ++ codes " rw") ∷ [])

-- a board begins
unfoldable pub board_line : List ℕ
board_line = lines_text (codes ".board" ∷ [])

-- it adds `step`
unfoldable pub step_line : ℕ → List ℕ
step_line step = lines_text ((codes "li r2, " ++ decimal step) ∷ [])

-- the sum is 0, a page has 4096 bytes, and there are two rounds over the pages
unfoldable pub setting_lines : List ℕ
setting_lines = lines_text (
    codes "li r4, 0"
    ∷ codes "li r7, 4096"
    ∷ codes "li r8, 2"
    ∷ codes "again:"
    ∷ [])

-- a round begins at the board's own word of page 0
unfoldable pub word_line : ℕ → List ℕ
word_line word = lines_text ((codes "li r1, " ++ decimal word) ∷ [])

-- and takes so many pages
unfoldable pub pages_line : ℕ → List ℕ
pages_line pages = lines_text ((codes "li r3, " ++ decimal pages) ∷ [])

-- each page's word is loaded, added to, stored and summed; after two rounds the sum is shown
unfoldable pub closing_lines : List ℕ
closing_lines = lines_text (
    codes "first:"
    ∷ codes "ld r5, 0(r1)"
    ∷ codes "add r5, r5, r2"
    ∷ codes "st r5, 0(r1)"
    ∷ codes "add r4, r4, r5"
    ∷ codes "add r1, r1, r7"
    ∷ codes "addi r3, r3, -1"
    ∷ codes "bne r3, r0, first"
    ∷ codes "addi r8, r8, -1"
    ∷ codes "bne r8, r0, again"
    ∷ codes "show r4"
    ∷ codes "halt"
    ∷ [])

-- the lines of a board: its word of each page is the one at 4 times its number
abbrev pub board_text : ℕ → ℕ → ℕ → List ℕ
board_text number pages board =
    board_line ++ (step_line (step_of number board)
    ++ (setting_lines ++ (word_line (4 * board) ++ (pages_line pages ++ closing_lines))))

-- the whole text: the comment, a line for each page, and the lines of each board
abbrev pub generated_text : ℕ → ℕ → ℕ → List ℕ
generated_text number boards pages =
    comment_line number boards pages
    ++ (flat_map page_line (up_to pages) ++ flat_map (board_text number pages) (up_to boards))
