-- The question for the next command, by the state.
use Rattle.station.proofs.any.Station.next_command.Goals as goal

pub returns-in-Idle : goal.returns-in-Idle
returns-in-Idle g c rest table = rw c.in-Idle.is (c.next_command.ensures rest table)

pub returns-in-Running : goal.returns-in-Running
returns-in-Running g c rest table = rw c.in-Running.is (c.next_command-in-Running.ensures rest table)

pub returns-in-Shut : goal.returns-in-Shut
returns-in-Shut g c rest table = rw c.in-Shut.is (c.next_command-in-Shut.ensures rest table)
