-- What is demanded of the clock, from fresh words and over any history of the host's calls: `kept`, `never_35`, `accepted_33`,
-- `time_told`, `move_told`, `state_told` and `offer-told` among it. The words are in clock_demands, specs/Demands.
use Rattle.clock_demands.specs.Demands.{ClockDemands}
use Rattle.clock_demands.proofs.Demands.{demands}

pub clock-demands : ClockDemands
clock-demands = demands
