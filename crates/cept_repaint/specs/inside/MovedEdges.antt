-- Commands that may change which rows are last (this project's own).
use Rattle.std.specs.Prelude.{Bool, true, false}
use Rattle.cept_codes.specs.declared.command.Command.{Command}
use Rattle.cept_codes.specs.declared.command.Command.TheVariants as commands

-- the command sets the number of rows, makes or deletes an area, or chooses the revision of the rules
abbrev pub may_move_edges : Command → Bool
may_move_edges (commands.Format rows wrap) = true
may_move_edges (commands.FullDefaults set) = true
may_move_edges (commands.AreaCreate first last) = true
may_move_edges (commands.AreaDelete first last) = true
may_move_edges (commands.Revision revision) = true
may_move_edges _ = false
