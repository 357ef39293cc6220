-- The opening stands.
use Rattle.std.proofs.Common.{◌≡◌, ◌∙◌, ℕ, zero, suc, ◌+◌, ◌-◌, ◌<◌, ◌≤◌, true, false, ap, sym, refl, subst, List, [], get_or, length, replicate, Option, Some, None, arith}
use Rattle.std.proofs.lemmas.List.{length-replicate}
use Rattle.spur_addr.specs.PageEntry.{is_valid}
use Rattle.spur_cache.specs.declared.line.Line.{Line}
use Rattle.spur_flat.specs.declared.flat.Flat.{Flat}
use Rattle.spur_flat.specs.declared.tag.Tag.{Tag}
use Rattle.spur_flat.specs.Pager.{word_of}
use Rattle.spur_flat.specs.TagLines.{no_tags}
use Rattle.spur_flat.specs.Validity.{IsValidFlat}
use Rattle.spur_bus.specs.Calls.{line_count, tags_of}
use Rattle.spur_bus.specs.Logical.{logical_words}
use Rattle.spur_bus.proofs.NoLineFacts.{tags-empty}
use Rattle.spur_frames.specs.Frames.{Frames, holder_of, new_frames}
use Rattle.spur_walk.specs.Present.{ArePresent, MayWalk}
use Rattle.spur_walk.specs.Tables.{logical_flat}
use Rattle.spur_walk.proofs.BeginFacts.{empty, empty-walks}
use Rattle.spur_pager.specs.View.{View}
use Rattle.spur_pager.specs.Stand.{AreFramed, standing_flat, with_told}
use Rattle.spur_flat.specs.Clean.{AreClean}
use Rattle.spur_addr.specs.Address.{page_address, user_pages}
use Rattle.spur_pager.specs.Opening.{IsLaidOut, IsNewMachine, LayoutStands, OpeningStands}

count-empty : (boards lines : ℕ) → 1 ≤ boards → line_count (empty boards lines) ≡ lines
count-empty zero lines some = absurd (omega arith)
count-empty (suc boards) lines some = length-replicate lines None

-- the swap that is told is the same
told-same : (F : Flat) (o : Option (List ℕ)) → ((words : List ℕ) → o ≡ Some words → words ≡ F.swap) → with_told F o ≡ F
told-same F None told = refl
told-same F (Some words) told = ap (λ (ws : List ℕ). record F { swap = ws }) (told words refl)

pub layout-stands : LayoutStands
layout-stands boards lines F w laid =
    let e = laid.empty in
    let begin = empty-walks F boards lines F.words e.some e.few e.count e.valid in
    let none : w.caches ≡ empty boards lines = e.caches in
    let logical : logical_words w.caches w.memory ≡ F.words =
    ap (λ (cs : List (List (Option Line))). logical_words cs w.memory) none ∙ ap (logical_words (empty boards lines)) e.memory ∙ begin.logical in
    let flat : standing_flat F w ≡ F =
    ap (λ (ws : List ℕ). record (with_told F w.pages) { words = ws }) logical ∙ ap (λ (G : Flat). record G { words = F.words }) (told-same F w.pages e.told) in
    let tags : tags_of w.caches ≡ no_tags boards lines = ap tags_of none ∙ tags-empty boards lines in
    let many : length w.caches ≡ boards = ap (λ (cs : List (List (Option Line))). length cs) none ∙ length-replicate boards (replicate lines None) in
    record {
      stands = record {
        walk = subst (λ (cs : List (List (Option Line))). MayWalk cs w.memory) (sym none) (subst (λ (ws : List ℕ). MayWalk (empty boards lines) ws) (sym e.memory) begin.walk);
        valid = subst IsValidFlat (sym flat) e.valid;
        present = subst (λ (cs : List (List (Option Line))). ArePresent (logical_flat cs w.memory) cs) (sym none)
            (subst (λ (ws : List ℕ). ArePresent (logical_flat (empty boards lines) ws) (empty boards lines)) (sym e.memory) begin.present);
        framed = subst (λ (G : Flat). AreFramed G w.frames) (sym flat) laid.framed;
        slots = e.slots;
        clean = λ (words : List ℕ) (told : w.pages ≡ Some words). subst AreClean (sym flat) (laid.clean words told);
      };
      flat = flat;
      state =
          ap (λ (G : Flat). record { flat = G; tags = tags_of w.caches; opened = replicate (length w.caches) []; lines = line_count w.caches }) flat
          ∙ ap (λ (T : List (List (Option Tag))). record { flat = F; tags = T; opened = replicate (length w.caches) []; lines = line_count w.caches }) tags
          ∙ ap (λ (n : ℕ). record { flat = F; tags = no_tags boards lines; opened = replicate n []; lines = line_count w.caches }) many
          ∙ ap (λ (n : ℕ). record { flat = F; tags = no_tags boards lines; opened = replicate boards []; lines = n }) (ap line_count none ∙ count-empty boards lines e.some);
    }

none_held : (n k : ℕ) → get_or {A = Option (ℕ × ℕ)} (replicate n None) k None ≡ None
none_held zero k = refl
none_held (suc n) zero = refl
none_held (suc n) (suc k) = none_held n k

none_some : (x : ℕ × ℕ) → None ≡ Some x → ⊥
none_some x h = cc

-- a frame table that is new, where no page is valid
framed_new : (F : Flat) → ((page : ℕ) → page < user_pages → is_valid (word_of F (page_address page)) ≡ false) → AreFramed F (new_frames (64 + F.tables) F.frames)
framed_new F absent = record {
  first = refl;
  count = length-replicate F.frames None;
  taken = λ frame page slot is there. absurd (held frame page slot there);
  holds = λ page small valid. absurd (present page small valid);
  leaving = λ frame is. cc;
  leaves = λ page small valid leaving. absurd (present page small valid);
}
  where
    held : (frame page slot : ℕ) → holder_of (new_frames (64 + F.tables) F.frames) frame ≡ Some (page, slot) → ⊥
    held frame page slot there = none_some (page, slot) (sym (none_held F.frames (frame - (64 + F.tables))) ∙ there)

    present : (page : ℕ) → page < user_pages → is_valid (word_of F (page_address page)) ≡ true → ⊥
    present page small valid = let clash : false ≡ true = sym (absent page small) ∙ valid in cc

new-is-laid-out : (boards lines : ℕ) (F : Flat) (w : View) → IsNewMachine boards lines F w → IsLaidOut boards lines F w
new-is-laid-out boards lines F w new = record {
  empty = new.empty;
  framed = subst (λ (f : Frames). AreFramed F f) (sym new.frames) (framed_new F new.absent);
  clean = λ (words : List ℕ) (told : w.pages ≡ Some words) page small valid clear. let clash : false ≡ true = sym (new.absent page small) ∙ valid in cc;
}

pub opening-stands : OpeningStands
opening-stands boards lines F w new = layout-stands boards lines F w (new-is-laid-out boards lines F w new)
