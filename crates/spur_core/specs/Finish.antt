-- All lines are flushed, after a run.
use Rattle.std.specs.Prelude.{ℕ, ◌≡◌, ◌<◌, List, length, replicate, Option, None}
use Rattle.spur_cache.specs.declared.line.Line.{Line}
use Rattle.spur_bus.specs.Agrees.{Agrees}
use Rattle.spur_bus.specs.Boards.{line_in}
use Rattle.spur_bus.specs.Calls.{KeepsWords, line_count}

-- as many lines as these, of which none holds anything
abbrev pub empty_lines : List (Option Line) → List (Option Line)
empty_lines lines = replicate (length lines) None

-- no cache before one holds a line, and that one holds none before a place
pub record AreEmptyTo (caches : List (List (Option Line))) (holder slot : ℕ) : Type 0 where
  pub below : (i s : ℕ) → i < holder → line_in caches i s ≡ None
  pub here : (s : ℕ) → s < slot → line_in caches holder s ≡ None

-- Caches and a memory still agree after some lines were flushed: there are as many caches, with as many lines, and the
-- logical memory is as it was.
pub record StillAgree (caches : List (List (Option Line))) (memory : List ℕ) (news : List (List (Option Line))) (after : List ℕ) : Type 0 where
  pub count : length news ≡ length caches
  pub lines : line_count news ≡ line_count caches
  pub agree : Agrees news
  pub words : KeepsWords caches news memory after
