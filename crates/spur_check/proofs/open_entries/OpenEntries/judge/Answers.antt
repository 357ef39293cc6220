use Rattle.std.proofs.Common.{◌≡◌, ◌∙◌, ap, sym, Some, None, inl, inr}
use Rattle.spur_addr.specs.Address.{block_of}
use Rattle.spur_flat.specs.Blocks.{Role, Serves, access_blocks, entry_block, pager_blocks, role_of}
use Rattle.spur_check.proofs.Serves.{answer}
use Rattle.spur_check.proofs.open_entries.OpenEntries.judge.Goals as goal

pub returns-in-Leave : goal.returns-in-Leave
returns-in-Leave c =
    let role : role_of c.args.entry.now ≡ Serves (pager_blocks c.in-Leave.at) (Some (entry_block c.in-Leave.at)) = elim c.in-Leave.is [
      | inl (x, e) ↦ ap role_of e
      | inr (inl (x, e)) ↦ ap role_of e
      | inr (inr (inl (x, y, e))) ↦ ap role_of e
      | inr (inr (inr (inl (x, e)))) ↦ ap role_of e
      | inr (inr (inr (inr (inl (x, e))))) ↦ ap role_of e
      | inr (inr (inr (inr (inr (x, e))))) ↦ ap role_of e
    ] in
    c.judge_pager.ensures ∙ sym (ap (λ (r : Role). answer c.args.lines c.args.self.now r) role)

pub returns-in-Store : goal.returns-in-Store
returns-in-Store c =
    let role : role_of c.args.entry.now ≡ Serves (access_blocks c.in-Store.at) (Some (block_of c.in-Store.at)) = elim c.in-Store.is [
      | inl (x, y, e) ↦ ap role_of e
      | inr (x, y, e) ↦ ap role_of e
    ] in
    c.judge_write.ensures ∙ sym (ap (λ (r : Role). answer c.args.lines c.args.self.now r) role)

pub returns-in-Load : goal.returns-in-Load
returns-in-Load c =
    let role : role_of c.args.entry.now ≡ Serves (access_blocks c.in-Load.at) None = elim c.in-Load.is [
      | inl (x, y, e) ↦ ap role_of e
      | inr (x, y, z, e) ↦ ap role_of e
    ] in
    c.judge_read.ensures ∙ sym (ap (λ (r : Role). answer c.args.lines c.args.self.now r) role)
