-- What stays starts with the words and bytes that it means; else nothing changes.
use Rattle.bunch_settling.proofs.Settles.{new_is, starting, staying}
use Rattle.bunch_settling.proofs.inner.messages.SettledMemory.settle_free.Goals as goal

pub returns-then-e-clause-lays : goal.returns-then-e-clause-lays
returns-then-e-clause-lays c = rw c.if-e.true (c.start_message.ensures.lays _ (rw c.started_place-next.ensures (new_is _ _ _ _ _ _ _ _ _ _ _ c.requires)))

pub start_message-requires : goal.start_message-requires
start_message-requires c = starting _ _ _ _ _ _ _ _ _ _ _ c.requires c.started_place-next.ensures c.if-e.true

pub returns-else-e-clause-lays : goal.returns-else-e-clause-lays
returns-else-e-clause-lays c = rw c.if-e.false (staying _ _ _ _ _ _ _ _ _ _ _ c.requires)
