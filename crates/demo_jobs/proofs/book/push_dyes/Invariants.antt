use Rattle.std.proofs.Common.{◌≡◌, ◌++◌, take}
use Rattle.std.specs.List.{flat_map}
use Rattle.demo_jobs.specs.CurveText.{book_of, dye_book}
use Rattle.demo_jobs.proofs.book.push_dyes.Given as goal

abbrev pub invariant-loop-dye : goal.invariant-loop-dye
invariant-loop-dye l =
    book_of l.book.items ≡ book_of l.initial.book.items ++ flat_map dye_book (take l.dye-index l.dyes)
