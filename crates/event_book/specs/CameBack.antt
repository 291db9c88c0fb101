-- The holders that came back, by what was noted of each.
use Rattle.std.specs.Prelude.{List, [], ◌∷◌, ◌++◌}
use Rattle.event_book.specs.declared.came.Last.{Last}
use Rattle.event_book.specs.declared.came.Last.TheVariants as last
use Rattle.event_book.specs.Callers.{Caller}

abbrev pub came_by : Last → List Caller
came_by last.Nobody = []
came_by (last.After before number front) = before.value ++ record { number = number.value; front = front.value.list } ∷ []
