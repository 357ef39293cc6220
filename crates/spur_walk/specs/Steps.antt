-- A step, by its plan: what it needs, its answer, and what it leaves.
use Rattle.std.specs.Prelude.{ℕ, ◌≡◌, ◌<◌, ◌≤◌, ◌+◌, ◌^◌, ⊤, true, false, List, [], get_or, length, slice_index, slice_set, Option, Some, None}
use Rattle.spur_addr.specs.Address.{block_start_of, entry_address_of, table_start, root_start}
use Rattle.spur_addr.specs.PageEntry.{is_valid, is_dirty, is_leaving}
use Rattle.spur_cache.specs.declared.line.Line.{Line}
use Rattle.spur_cache.specs.Lines.{occupant, with_dirty}
use Rattle.spur_snoop.specs.declared.Need.{Need}
use Rattle.spur_snoop.specs.declared.Need.TheVariants.{Read}
use Rattle.spur_snoop.specs.Protocol.{is_owned}
use Rattle.spur_flat.specs.declared.flat.Flat.{Flat}
use Rattle.spur_flat.specs.declared.tag.Tag.{Tag}
use Rattle.spur_flat.specs.declared.illegal.Illegal.{Illegal}
use Rattle.spur_flat.specs.declared.entry.Layer.{Layer}
use Rattle.spur_flat.specs.declared.entry.Layer.TheVariants.{RootBlock, PteBlock, UserBlock}
use Rattle.spur_flat.specs.declared.entry.Entry.TheVariants as entry
use Rattle.spur_flat.specs.Blocks.{root_word_of}
use Rattle.spur_flat.specs.Pager.{word_of}
use Rattle.spur_flat.specs.TagLines.{tags_on}
use Rattle.spur_flat.specs.TagRules.{may_claim, may_fill, tags_refusal}
use Rattle.spur_bus.specs.declared.place.Place.{Place}
use Rattle.spur_bus.specs.Boards.{line_of_block}
use Rattle.spur_bus.specs.Logical.{logical_words}
use Rattle.spur_bus.specs.Calls.{HasLine, claimed, line_count, read_caches, shared_again, tags_of, written_back}
use Rattle.spur_walk.specs.declared.plan.Plan.{Plan}
use Rattle.spur_walk.specs.declared.plan.Plan.TheVariants as plan
use Rattle.spur_walk.specs.declared.step.Walked.{Walked}
use Rattle.spur_walk.specs.declared.step.Walked.TheVariants as walked
use Rattle.spur_walk.specs.Tables.{logical_flat, HasTablesOf}
use Rattle.spur_walk.specs.Present.{MayWalk, ArePresent}
use Rattle.spur_walk.specs.Plan.{access_plan, page_plan, user_place, table_place, root_place}

-- cache b has a line of the block of g
pub record HasBlock (caches : List (List (Option Line))) (b g : ℕ) : Type 0 where
  pub line : Line
  pub there : line_of_block caches b g ≡ Some line

-- cache b has the user's block of g with its dirty copy clear, and the block of its page's entry, which is dirty and not
-- leaving
pub record MayRefresh (F : Flat) (caches : List (List (Option Line))) (b g : ℕ) : Type 0 where
  pub user : g < table_start
  pub line : Line
  pub there : line_of_block caches b g ≡ Some line
  pub clear : line.dirty ≡ false
  pub above : HasBlock caches b (entry_address_of g)
  pub dirty : is_dirty (word_of F g) ≡ true
  pub staying : is_leaving (word_of F g) ≡ false

-- cache b has the block of g, which is no block of the root, and not for itself
pub record MayTake (caches : List (List (Option Line))) (b g : ℕ) : Type 0 where
  pub low : g < root_start
  pub shared : HasLine caches b g may_claim

-- A block may be filled from a place by the tables: a user's block under the entry of its page, which lets it, and of which
-- the board has the block; a block of the page table under its root entry, which is valid, and of which the board has the
-- block; and one of the root, to be read, from its wired frame.
pub data IsFilled (F : Flat) (caches : List (List (Option Line))) (b : ℕ) : Layer → Need → ℕ → Place → Type 0 where
  OfUserBlock : (need : Need) (g : ℕ) (place : Place) → g < table_start → HasBlock caches b (entry_address_of g) → may_fill (word_of F g) need ≡ true → place ≡ user_place (word_of F g) → IsFilled F caches b UserBlock need g place
  OfPteBlock : (need : Need) (g : ℕ) (place : Place) → table_start ≤ g → g < root_start → HasBlock caches b (entry_address_of g) → is_valid (slice_index F.words (root_word_of g)) ≡ true
      → place ≡ table_place (slice_index F.words (root_word_of g)) → IsFilled F caches b PteBlock need g place
  OfRootBlock : (g : ℕ) (place : Place) → root_start ≤ g → g < root_start + 2 ^ 18 → place ≡ root_place g → IsFilled F caches b RootBlock Read g place

-- cache b lacks the block of g, no owned line stands on its place, and it may be filled from there
pub record MayFill (F : Flat) (caches : List (List (Option Line))) (b : ℕ) (layer : Layer) (need : Need) (g : ℕ) (place : Place) : Type 0 where
  pub lacks : line_of_block caches b g ≡ None
  pub victim : (line : Line) → occupant (get_or caches b []) g ≡ Some line → is_owned line.state ≡ false
  pub fills : IsFilled F caches b layer need g place

-- what a plan of board b towards g needs
abbrev pub MayDo : Flat → List (List (Option Line)) → ℕ → ℕ → Plan → Type 0
MayDo F caches b g plan.Ready = ⊤
MayDo F caches b g (plan.Fault kind) = ⊤
MayDo F caches b g plan.Refresh = MayRefresh F caches b g
MayDo F caches b g plan.Claim = MayTake caches b g
MayDo F caches b g (plan.WriteBack at) = HasLine caches b at is_owned
MayDo F caches b g (plan.Fill layer need at place) = MayFill F caches b layer need at place

-- that, by the tables of the logical memory
abbrev pub MayTakeStep : List (List (Option Line)) → List ℕ → ℕ → ℕ → Plan → Type 0
MayTakeStep caches memory b g plan = MayDo (logical_flat caches memory) caches b g plan

-- the answer of a step of board b towards g, by its plan: what it planned, with the entry of the history that it makes
abbrev pub answer_of : ℕ → ℕ → Plan → Walked
answer_of b g plan.Ready = walked.Ready
answer_of b g (plan.Fault kind) = walked.Fault kind
answer_of b g plan.Refresh = walked.Moved (entry.Refresh b (block_start_of g))
answer_of b g plan.Claim = walked.Moved (entry.Claim b (block_start_of g))
answer_of b g (plan.WriteBack at) = walked.Moved (entry.WriteBack b (block_start_of at))
answer_of b g (plan.Fill layer need at place) = walked.Moved (entry.Fill b layer need (block_start_of at))

-- an answer makes no entry of the history
abbrev pub HasNoEntry : Walked → Type 0
HasNoEntry walked.Ready = ⊤
HasNoEntry (walked.Fault kind) = ⊤
HasNoEntry (walked.Moved e) = ⊥

-- the memory after a step of board b, by its plan: only a write-back writes to it
abbrev pub stepped_memory : List (List (Option Line)) → List ℕ → ℕ → Plan → List ℕ
stepped_memory caches memory b plan.Ready = memory
stepped_memory caches memory b (plan.Fault kind) = memory
stepped_memory caches memory b plan.Refresh = memory
stepped_memory caches memory b plan.Claim = memory
stepped_memory caches memory b (plan.WriteBack at) = written_back memory at (line_of_block caches b at)
stepped_memory caches memory b (plan.Fill layer need at place) = memory

-- the caches after board `own` set the dirty copy of the block of g
abbrev pub dirtied_in : List (List (Option Line)) → ℕ → ℕ → List (List (Option Line))
dirtied_in caches own g = slice_set caches own (with_dirty (get_or caches own []) g)

-- the caches after a step of board b towards g, by its plan, where these are the caches and the memory before it
abbrev pub stepped : List (List (Option Line)) → List ℕ → ℕ → ℕ → Plan → List (List (Option Line))
stepped caches memory b g plan.Ready = caches
stepped caches memory b g (plan.Fault kind) = caches
stepped caches memory b g plan.Refresh = dirtied_in caches b g
stepped caches memory b g plan.Claim = claimed caches b g
stepped caches memory b g (plan.WriteBack at) = shared_again caches b at
stepped caches memory b g (plan.Fill layer need at place) = read_caches caches memory b need at place

-- the tags after an answer, and why it is refused by the tags: an answer without an entry changes none, and is not
abbrev pub tags_walked : Flat → List (List (Option Tag)) → Walked → List (List (Option Tag))
tags_walked F T walked.Ready = T
tags_walked F T (walked.Fault kind) = T
tags_walked F T (walked.Moved e) = tags_on F T e

abbrev pub walked_refusal : Flat → List (List (Option Tag)) → Walked → Option Illegal
walked_refusal F T walked.Ready = None
walked_refusal F T (walked.Fault kind) = None
walked_refusal F T (walked.Moved e) = tags_refusal F T e

-- What a step leaves, by its plan: the caches, and the memory. All that the walk needs is there again, so that a caller can repeat it: the logical
-- memory is as it was, and where the lines were of present pages, they are again. The numbers of caches, of lines and of
-- words stay. In every flat state with the root and table words of the logical memory, the tags allow the entry and move by
-- its tag step.
pub record Steps (before : List (List (Option Line))) (old : List ℕ) (b g : ℕ) (plan : Plan) (after : List (List (Option Line))) (new : List ℕ) : Type 0 where
  pub caches : after ≡ stepped before old b g plan
  pub memory : new ≡ stepped_memory before old b plan
  pub walk : MayWalk after new
  pub logical : logical_words after new ≡ logical_words before old
  pub present : ArePresent (logical_flat before old) before → ArePresent (logical_flat after new) after
  pub count : length after ≡ length before
  pub lines : line_count after ≡ line_count before
  pub size : length new ≡ length old
  pub tagged : (F : Flat) → HasTablesOf F (logical_words before old) → walked_refusal F (tags_of before) (answer_of b g plan) ≡ None
  pub tags : (F : Flat) → HasTablesOf F (logical_words before old) → tags_of after ≡ tags_walked F (tags_of before) (answer_of b g plan)

-- that, of the first step that applies towards an access, and of the first towards the block of a page's entry
abbrev pub StepsTowards : List (List (Option Line)) → List ℕ → ℕ → ℕ → Need → List (List (Option Line)) → List ℕ → Type 0
StepsTowards before old b at need after new = Steps before old b at (access_plan before old b at need) after new

abbrev pub StepsTowardsEntry : List (List (Option Line)) → List ℕ → ℕ → ℕ → List (List (Option Line)) → List ℕ → Type 0
StepsTowardsEntry before old b page after new = Steps before old b (entry_address_of page) (page_plan before old b page) after new
