-- What somebody is told whose words ask for nothing.
use Rattle.std.specs.Prelude.{ℕ, ◌∷◌, ◌==◌, ◌||◌, ◌&&◌, Bool, true, false, not, if◌then◌else◌, List, [], Option, None, Some, codes}
use Rattle.std.specs.Prelude.{nat_eq, nat_lt, slice_index}
use Rattle.std.specs.Cmp.Lexicographic.{pointwise}
use Rattle.std.specs.List.{list_any}
use Rattle.commands.specs.Script.{number_of}
use Rattle.command_words.specs.declared.advice.Advice.{Advice}
use Rattle.command_words.specs.declared.advice.Advice.TheVariants as told

abbrev pub is_word : List ℕ → List ℕ → Bool
is_word wanted word = pointwise nat_eq word wanted

-- a word stands among these
abbrev pub has : List ℕ → List (List ℕ) → Bool
has wanted words = list_any (is_word wanted) words

abbrev pub asks_help : List (List ℕ) → Bool
asks_help words = has (codes "--help") words || has (codes "-h") words || has (codes "help") words

abbrev pub asks_version : List (List ℕ) → Bool
asks_version words = has (codes "--version") words || has (codes "-V") words

-- a number that is not between these, or none
abbrev pub is_beyond : ℕ → ℕ → Option ℕ → Bool
is_beyond least most None = true
is_beyond least most (Some n) = nat_lt n least || nat_lt most n

-- a text that is no number between these, where no plus stands first
abbrev pub is_outside : ℕ → ℕ → List ℕ → Bool
is_outside least most text = not (slice_index text 0 == 43) && is_beyond least most (number_of text)

-- the word of an option, one of `serve` where this says so and else of `replay`, and the word behind it, which is no number
-- of its range
abbrev pub outside : Bool → List ℕ → List ℕ → Option Advice
outside serves option text = if (serves && pointwise nat_eq option (codes "--workers")) && is_outside 2 32 text then Some told.Workers
    else (if (serves && pointwise nat_eq option (codes "--connections")) && is_outside 0 9223372036854775807 text then Some told.Connections
    else (if pointwise nat_eq option (codes "--cluster-id") && is_outside 1 9223372036854775807 text then Some told.ClusterId
    else (if pointwise nat_eq option (codes "--member-id") && is_outside 1 9223372036854775807 text then Some told.MemberId
    else None)))

abbrev pub or_else : Option Advice → Option Advice → Option Advice
or_else (Some advice) _ = Some advice
or_else None other = other

-- the first option of these words, a word and those behind it, whose number is out of its range
abbrev pub first_outside : Bool → List ℕ → List (List ℕ) → Option Advice
first_outside serves option [] = None
first_outside serves option (word ∷ words) = or_else (outside serves option word) (first_outside serves word words)

abbrev pub of_options : List (List ℕ) → Option Advice
of_options words = or_else (first_outside true [] words) (if has (codes "--listen") words then None else Some told.Address)

abbrev pub of_command : List (List ℕ) → Option Advice
of_command (word ∷ options) = if pointwise nat_eq word (codes "serve") then of_options options
    else (if pointwise nat_eq word (codes "replay") then first_outside false [] options else None)
of_command [] = None

-- by the words behind the program's name
abbrev pub of_rest : List (List ℕ) → Option Advice
of_rest words = if asks_help words then Some told.Help
    else (if asks_version words then Some told.Version else of_command words)

abbrev pub advice_of : List (List ℕ) → Option Advice
advice_of [] = None
advice_of (name ∷ words) = of_rest words

-- the line that tells it
abbrev pub line_of : Advice → List ℕ
line_of told.Help = codes "etcd_one 0.1.0; usage: etcd_one replay [--cluster-id N] [--member-id N] < script, etcd_one check < certificate, or etcd_one serve --listen ADDR [--workers 2..32, else 8] [--connections 0..9223372036854775807, else 0, which is no end] [--cluster-id 1..9223372036854775807, else 1] [--member-id 1..9223372036854775807, else 1] [--from FILE, a script that it goes on from] [--control, by lines on standard input] [--record FILE, its events as a script]"
line_of told.Version = codes "etcd_one 0.1.0"
line_of told.Workers = codes "etcd_one: --workers takes a number from 2 to 32"
line_of told.Connections = codes "etcd_one: --connections takes a number from 0 to 9223372036854775807"
line_of told.ClusterId = codes "etcd_one: --cluster-id takes a number from 1 to 9223372036854775807"
line_of told.MemberId = codes "etcd_one: --member-id takes a number from 1 to 9223372036854775807"
line_of told.Address = codes "etcd_one: serve needs --listen ADDR, as in --listen 127.0.0.1:2379"
