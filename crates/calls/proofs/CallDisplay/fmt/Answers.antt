use Rattle.calls.proofs.CallDisplay.fmt.Goals as goal

-- What is written of an advance is longer than what the check's own search rewrites.
pub returns-in-Advance-clause-writes : goal.returns-in-Advance-clause-writes
returns-in-Advance-clause-writes g c = rw c.in-Advance.is c.write-in-Advance.ensures.writes
