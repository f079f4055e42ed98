-- What is written is the text: the four digits of the mask.
use Rattle.std.proofs.Output.{has_written_of_eq}
use Rattle.labels.proofs.Texts.{four_bytes}
use Rattle.labels.proofs.growers.GrowersDisplay.fmt.Goals as goal

pub returns-clause-writes : goal.returns-clause-writes
returns-clause-writes g c =
    let text = four_bytes c.args.self.now _ _ _ _
    c.hex_digit-a.ensures c.hex_digit-b.ensures c.hex_digit-c.ensures c.hex_digit-d.ensures in
    λ plain ok. has_written_of_eq g.W.Write.write_str_gives _ _ _ _ text (c.write.ensures.writes plain ok)
