-- What a fault came of.
use Rattle.std.specs.Prelude.{Bool, true, false, ◌||◌}
use Rattle.commands.specs.declared.fault.Fault.{Fault}
use Rattle.commands.specs.declared.fault.Fault.TheVariants as fault

-- it may come of reading a script
abbrev pub is_read : Fault → Bool
is_read (fault.Read error) = true
is_read fault.Endless = true
is_read fault.Memory = true
is_read _ = false

-- it comes of a script without an end
abbrev pub is_endless : Fault → Bool
is_endless fault.Endless = true
is_endless _ = false

-- it comes of writing the replies, and of nothing else
abbrev pub is_write : Fault → Bool
is_write (fault.Write error) = true
is_write _ = false

-- it may come of reading the script that a server goes on from
abbrev pub is_of_script : Fault → Bool
is_of_script (fault.Script error) = true
is_of_script fault.Endless = true
is_of_script fault.Memory = true
is_of_script _ = false

-- it may come of reading a text, or of writing what it is answered
abbrev pub is_of_streams : Fault → Bool
is_of_streams f = is_read f || is_write f

-- it may come of the words of a command line
abbrev pub is_of_words : Fault → Bool
is_of_words fault.Arguments = true
is_of_words fault.Memory = true
is_of_words _ = false
