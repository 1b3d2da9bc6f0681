-- What the reader of a line makes, as what the line asks.
use Rattle.sat_console.specs.declared.answer.Question.{Question}
use Rattle.sat_console.specs.Form.{Asked}

abbrev pub asked_as : Question → Asked
asked_as q = record { node = q.node; moment = q.moment; order = q.order.items }
