-- The names of commands.
use Rattle.std.specs.Prelude.{List, ℕ, Option, Some, None, codes, if◌then◌else◌}
use Rattle.sat_base.specs.Text.{same}
use Rattle.command_line.specs.declared.names.Name.{Name}
use Rattle.command_line.specs.declared.names.Name.TheVariants.{Settle, Judge, Init, Serve, Sheet, Drill}

-- the command that a word names
abbrev pub name_in : List ℕ → Option Name
name_in word =
    if same word (codes "settle") then Some Settle else (if same word (codes "judge") then Some Judge
    else (if same word (codes "init") then Some Init else (if same word (codes "serve") then Some Serve
    else (if same word (codes "sheet") then Some Sheet else (if same word (codes "drill") then Some Drill else None)))))
