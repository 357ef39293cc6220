use Rattle.spur_trace.specs.Line.{entry_line}
use Rattle.spur_trace.proofs.write.put_entry.Goals as goal

pub returns-in-Load-clause-line : goal.returns-in-Load-clause-line
unfolding entry_line
returns-in-Load-clause-line c = rw c.in-Load.is c.put_access.ensures.line

pub returns-in-Store-clause-line : goal.returns-in-Store-clause-line
unfolding entry_line
returns-in-Store-clause-line c = rw c.in-Store.is c.put_access-in-Store.ensures.line

pub returns-in-Tas-clause-line : goal.returns-in-Tas-clause-line
unfolding entry_line
returns-in-Tas-clause-line c = rw c.in-Tas.is c.put_access-in-Tas.ensures.line

pub returns-in-Fault-clause-line : goal.returns-in-Fault-clause-line
unfolding entry_line
returns-in-Fault-clause-line c = rw c.in-Fault.is (rw (c.fault_word.ensures, c.access_word.ensures) at c.put_words.ensures)

pub returns-in-Fill-clause-line : goal.returns-in-Fill-clause-line
unfolding entry_line
returns-in-Fill-clause-line c = rw c.in-Fill.is (rw (c.layer_word.ensures, c.need_word.ensures) at c.put_words-in-Fill.ensures)

pub returns-in-Claim-clause-line : goal.returns-in-Claim-clause-line
unfolding entry_line
returns-in-Claim-clause-line c = rw c.in-Claim.is c.put_place.ensures

pub returns-in-WriteBack-clause-line : goal.returns-in-WriteBack-clause-line
unfolding entry_line
returns-in-WriteBack-clause-line c = rw c.in-WriteBack.is c.put_place-in-WriteBack.ensures

pub returns-in-Refresh-clause-line : goal.returns-in-Refresh-clause-line
unfolding entry_line
returns-in-Refresh-clause-line c = rw c.in-Refresh.is c.put_place-in-Refresh.ensures

pub returns-in-BlockFlush-clause-line : goal.returns-in-BlockFlush-clause-line
unfolding entry_line
returns-in-BlockFlush-clause-line c = rw c.in-BlockFlush.is c.put_flush.ensures

pub returns-in-Leave-clause-line : goal.returns-in-Leave-clause-line
unfolding entry_line
returns-in-Leave-clause-line c = rw c.in-Leave.is c.put_place-in-Leave.ensures

pub returns-in-PageOut-clause-line : goal.returns-in-PageOut-clause-line
unfolding entry_line
returns-in-PageOut-clause-line c = rw c.in-PageOut.is c.put_place-in-PageOut.ensures

pub returns-in-PageIn-clause-line : goal.returns-in-PageIn-clause-line
unfolding entry_line
returns-in-PageIn-clause-line c = rw c.in-PageIn.is c.put_in.ensures

pub returns-in-SetRef-clause-line : goal.returns-in-SetRef-clause-line
unfolding entry_line
returns-in-SetRef-clause-line c = rw c.in-SetRef.is c.put_place-in-SetRef.ensures

pub returns-in-SetDirty-clause-line : goal.returns-in-SetDirty-clause-line
unfolding entry_line
returns-in-SetDirty-clause-line c = rw c.in-SetDirty.is c.put_place-in-SetDirty.ensures

pub returns-in-ClearRef-clause-line : goal.returns-in-ClearRef-clause-line
unfolding entry_line
returns-in-ClearRef-clause-line c = rw c.in-ClearRef.is c.put_place-in-ClearRef.ensures

pub returns-in-Load-clause-word : goal.returns-in-Load-clause-word
returns-in-Load-clause-word c = rw c.in-Load.is c.put_access.ensures.word

pub returns-in-Store-clause-word : goal.returns-in-Store-clause-word
returns-in-Store-clause-word c = rw c.in-Store.is c.put_access-in-Store.ensures.word

pub returns-in-Tas-clause-word : goal.returns-in-Tas-clause-word
returns-in-Tas-clause-word c = rw c.in-Tas.is c.put_access-in-Tas.ensures.word
