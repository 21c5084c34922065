-- P1 to P12 hold, all by computing.
use mathlib.Core.Path.{refl}
use Rattle.base.specs.Below.{some}
use Rattle.key.specs.Key.{key_from}
use Rattle.section.specs.Section.{read_of as sectionReading}
use Rattle.trigger.specs.Trigger.{description_of, id_of, target_of, trigger_of, read_of as triggerReading}
use Rattle.trigger_faults.specs.Fields.{wrong_length, is_uri, some_high}
use Rattle.file_number.specs.Number.{spelling, groups, worth, cut_off, last_is_zero, number_in}
use Rattle.examples.specs.Examples.{AllHold, examples}

pub proved : AllHold examples
unfolding sectionReading key_from triggerReading trigger_of target_of description_of id_of wrong_length is_uri some_high some spelling groups worth cut_off last_is_zero number_in
proved =
    (refl, (refl, (refl, (refl, (refl, (refl, (refl, (refl, (refl, (refl, (refl, (refl, (refl, (refl, (refl, (refl, tt))))))))))))))))
