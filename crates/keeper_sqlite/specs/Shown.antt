-- What a keeper over a connection shows.
use Rattle.std.specs.Prelude.{◌≡◌, ℕ, IsTrue}
use Rattle.sqlite.specs.Tree.{Trees}
use Rattle.sqlite.specs.Store.{Ghosts}
use Rattle.sqlite.specs.State.{State, HasCleanDisk}
use Rattle.sqlite.specs.Held.{Held, state}
use Rattle.sat_base.specs.Rows.{Rows}
use Rattle.keeper_sqlite.specs.Records.{Holds, rows_in}
use Rattle.keeper_sqlite.specs.declared.keeper.KeeperSqlite.{KeeperSqlite}

-- the connection through which it keeps rows
abbrev pub connection_of : {S : Type 0} {g : Ghosts S} → KeeperSqlite S g → Held S
connection_of k = k.conn

-- what that connection shows
abbrev pub state_of : {S : Type 0} {g : Ghosts S} → KeeperSqlite S g → State
state_of {S} {g} k = state g k.conn

-- it is clean, and no failure has shut it
abbrev pub StandsOpen : {S : Type 0} {g : Ghosts S} → KeeperSqlite S g → Type 0
StandsOpen k = HasCleanDisk (state_of k) × IsTrue (state_of k).is_open

-- the rows that it keeps
abbrev pub rows_kept : {S : Type 0} {g : Ghosts S} → KeeperSqlite S g → Rows
rows_kept k = rows_in (state_of k).committed.trees

-- the schema is the one table alone, and each kind in it is a byte
abbrev pub TellsRows : {S : Type 0} {g : Ghosts S} → KeeperSqlite S g → Type 0
TellsRows k = Holds (state_of k).committed (rows_kept k)

-- a crash may leave these rows
abbrev pub MayLeave : {S : Type 0} {g : Ghosts S} → KeeperSqlite S g → Rows → Type 0
MayLeave k m = (db : Trees) × (state_of k).may_leave db × (rows_in db ≡ m)

-- how many calls have failed
abbrev pub faults_of : {S : Type 0} {g : Ghosts S} → KeeperSqlite S g → ℕ
faults_of k = k.faults
