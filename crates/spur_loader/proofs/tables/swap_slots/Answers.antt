-- Each word is written where its page's slot says, and no other one.
use Rattle.std.proofs.Common.{◌≡◌, ◌+◌, ◌*◌, ◌/◌, ◌%◌, ℕ, Some, None, subst, refl, length, arith, inr, sym, ap, ◌∙◌}
use Rattle.std.specs.Prelude.{slice_set}
use Rattle.std.proofs.lemmas.Option.{slice_get_read}
use Rattle.spur_addr.specs.Address.{page_of}
use Rattle.spur_loader.specs.Opening.{slot_of}
use Rattle.spur_loader.proofs.EntryWords.{slot_is}
use Rattle.spur_loader.proofs.SwapSlotFacts.{WordsSoFar, table_readable, found_is, word_outside, words_more, words_all, words_inside, slot_within}
use Rattle.spur_loader.proofs.tables.swap_slots.Goals as goal

pub slot_of_page-requires-clause-readable : goal.slot_of_page-requires-clause-readable
slot_of_page-requires-clause-readable c = table_readable c.args.roots.now c.args.pages.now c.args.tables.now c.requires.tables

pub returns-in_default-clause-outside : goal.returns-in_default-clause-outside
returns-in_default-clause-outside c =
    let at = slice_get_read c.args.words.now _ c.loop-word.word-index c.word-item.result refl c.loop-word-test.true c.word-item.is in
    let none : slot_of c.args.pages.now (page_of c.word-item.result.at) ≡ None = ap (slot_of c.args.pages.now) (sym c.page.ensures.value)
    ∙ sym (found_is c.args.roots.now c.args.pages.now c.args.tables.now c.page.result c.requires.needed c.requires.tables) ∙ sym c.slot_of_page.ensures ∙ c.in_default.is in
    inr (word_outside c.args.pages.now c.args.words.now c.loop-word.held.items c.loop-word.word-index c.word-item.result c.loop-word.invariant at none)

pub index_mut-requires : goal.index_mut-requires
index_mut-requires c =
    let found : slot_of c.args.pages.now (page_of c.word-item.result.at) ≡ Some c.in-Some.slot = ap (slot_of c.args.pages.now) (sym c.page.ensures.value)
    ∙ sym (found_is c.args.roots.now c.args.pages.now c.args.tables.now c.page.result c.requires.needed c.requires.tables) ∙ sym c.slot_of_page.ensures ∙ c.in-Some.is in
    let s = slot_is c.args.pages.now (page_of c.word-item.result.at) c.in-Some.slot found in
    let w = slot_within c.args.pages.now c.in-Some.slot (length c.loop-word.held.items) c.word-item.result.at s.page s.at c.loop-word.invariant.size in
    let g : c.place_in_page.result ≡ c.word-item.result.at / 4 % 1024 = c.place_in_page.ensures in
    omega arith

pub loop-word-preserved : goal.loop-word-preserved
loop-word-preserved c =
    let at = slice_get_read c.args.words.now _ c.loop-word.word-index c.word-item.result refl c.loop-word-test.true c.word-item.is in
    let found : slot_of c.args.pages.now (page_of c.word-item.result.at) ≡ Some c.in-Some.slot = ap (slot_of c.args.pages.now) (sym c.page.ensures.value)
    ∙ sym (found_is c.args.roots.now c.args.pages.now c.args.tables.now c.page.result c.requires.needed c.requires.tables) ∙ sym c.slot_of_page.ensures ∙ c.in-Some.is in
    subst (λ (k : ℕ). WordsSoFar c.args.pages.now c.args.words.now (slice_set c.loop-word.held.items k c.word-item.result.value) (c.loop-word.word-index + 1))
    (ap (λ (n : ℕ). c.in-Some.slot * 1024 + n) (sym c.place_in_page.ensures))
    (words_more c.args.pages.now c.args.words.now c.loop-word.held.items c.loop-word.word-index c.in-Some.slot c.word-item.result c.requires.once c.requires.words
    c.loop-word.invariant at found)

pub returns-clause-held : goal.returns-clause-held
returns-clause-held c = words_all c.args.pages.now c.args.words.now c.loop-word.held.items c.loop-word.word-index c.loop-word.invariant c.loop-word-test.false

pub returns-clause-inside : goal.returns-clause-inside
returns-clause-inside c = words_inside c.args.pages.now c.args.words.now c.loop-word.held.items c.loop-word.word-index c.loop-word.invariant c.loop-word-test.false
