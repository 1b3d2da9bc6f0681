use Rattle.sat_book.proofs.UpgradeLemmas.{short_of}
use Rattle.sat_book.proofs.upgrading.put.Goals as goal

pub write-requires : goal.write-requires
write-requires c = short_of c.args.rec.now c.requires
