-- The query that made runs are tried by (our own rule).
use Rattle.std.specs.Prelude.{ℕ, ◌+◌, ◌*◌, List, ◌++◌, codes}
use Rattle.std.specs.Fmt.{decimal}

-- the query's text, for series of so many rows; each line ends in LF
abbrev pub query_text : ℕ → List ℕ
query_text count =
    codes "input a;\ninput b;\nlet m = avg(a[t-10:t]) every 10;\nlet d = a - m;\nemit ifnull(d, 0) + ifnull(b, 0) over (0, "
    ++ decimal (10 * count + 10) ++ codes "];\n"
