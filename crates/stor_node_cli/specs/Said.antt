-- What the words of a node say, as they were read.
use Rattle.stor_node_cli.specs.Words.{Asked, Who, Places}
use Rattle.stor_node_cli.specs.declared.words.NodeWords.{NodeWords}
use Rattle.stor_node_cli.specs.declared.words.WhoWords.{WhoWords}
use Rattle.stor_node_cli.specs.declared.words.PlaceWords.{PlaceWords}

abbrev pub who_said : WhoWords → Who
who_said words = record { node = words.node.0; key = words.key }

abbrev pub places_said : PlaceWords → Places
places_said words = record { port = words.port; satellite = words.satellite; addr = words.addr }

abbrev pub words_said : NodeWords → Asked
words_said words = record {
  node = words.node.0;
  key = words.key;
  dir = words.dir.now;
  port = words.port;
  satellite = words.satellite;
  cap = words.cap;
  addr = words.addr;
}
