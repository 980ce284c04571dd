-- The front of a line, once a holder is struck: it is let in while it conflicts with no holder.
use Rattle.std.specs.Prelude.{Bool, ◌&&◌, ltb}
use Rattle.rules.specs.declared.Object.{Object}
use Rattle.rules.specs.Book.{front_clear, settled}

-- there is a front, and it conflicts with no holder
abbrev pub front_goes : Object → Bool
front_goes o = ltb 0 o.line_count && front_clear o

-- the book once all are let in who can be
abbrev pub let_in : Object → Object
let_in o = (settled o.line_count o).object
