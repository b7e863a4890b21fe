-- The arguments of the program, the first of which names the command.
use Rattle.std.specs.Prelude.{ℕ, cond, List, [], ◌∷◌, length, Some, None, Ok, Err, codes, Option, Result, nat_le}
use Rattle.std.specs.Str.{bytes_eq as same_text}
use Rattle.console.specs.declared.command.Command.{Command}
use Rattle.console.specs.declared.command.Command.TheVariants.{Strings, Log, Help}
use Rattle.console.specs.declared.command.Misuse.{Misuse}
use Rattle.console.specs.declared.command.Misuse.TheVariants.{NoCommand, NoSuchCommand, WordsBehind}

abbrev pub command_named : List ℕ → Option Command
command_named name = cond (same_text name (codes "strings")) (Some Strings) (cond (same_text name (codes "log")) (Some Log) (cond (same_text name (codes "help")) (Some Help) None))

-- a command that is named by the only one of the words; a log takes words of its own
abbrev pub command_alone : Option Command → (words : ℕ) → Result Command Misuse
command_alone None words = Err NoSuchCommand
command_alone (Some Strings) words = cond (nat_le words 1) (Ok Strings) (Err WordsBehind)
command_alone (Some Log) words = Ok Log
command_alone (Some Help) words = cond (nat_le words 1) (Ok Help) (Err WordsBehind)

abbrev pub command_asked : List (List ℕ) → Result Command Misuse
command_asked [] = Err NoCommand
command_asked (word ∷ more) = command_alone (command_named word) (length (word ∷ more))
