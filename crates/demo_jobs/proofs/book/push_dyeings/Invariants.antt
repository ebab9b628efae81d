use Rattle.std.proofs.Common.{◌≡◌, ◌++◌, map, take}
use Rattle.demo_jobs.specs.CurveText.{book_of, named_dyeing}
use Rattle.demo_jobs.proofs.book.push_dyeings.Given as goal

abbrev pub invariant-loop-number : goal.invariant-loop-number
invariant-loop-number l =
    book_of l.book.items ≡ book_of l.initial.book.items ++ map (named_dyeing l.dye) (take l.number-index l.number-items)
