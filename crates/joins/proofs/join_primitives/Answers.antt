-- `join_primitives` meets its contract: every cell of the table is the join of its row and its column, by one test.
use mathlib.Core.List.{List, [], ◌∷◌}
use Prim.Native.Nat.{ℕ}
use lib.Dec.{T}
use Rattle.order.specs.Compare.{compare_numbers}
use Rattle.order.specs.Lists.{elem}
use Rattle.ty.specs.Types.{compare}
use Rattle.ty.specs.Words.{pack, word_of}
use Rattle.lattice.specs.Lattice.{same_type, narrow, under_double, join_primitive}
use Rattle.lattice.specs.JoinTable.{join_categories, cell, every, row, rule}
use Rattle.joins.proofs.join_primitives.Goals as goal

-- the table once more
joins : List (List ℕ)
joins =
    (0 ∷ 598203044986880 ∷ 598271764463616 ∷ 598340483940352 ∷ 598409203417088 ∷ 598477922893824 ∷ 598546642370560 ∷ 598615361847296 ∷ 598684081324032 ∷ 598752800800768 ∷ 598821520277504 ∷ [])
    ∷ (599233837137920 ∷ 1 ∷ 599371276091392 ∷ 599439995568128 ∷ 599508715044864 ∷ 599577434521600 ∷ 599646153998336 ∷ 599714873475072 ∷ 599783592951808 ∷ 599852312428544 ∷ 599921031905280 ∷ [])
    ∷ (600333348765696 ∷ 600402068242432 ∷ 2 ∷ 5 ∷ 5 ∷ 5 ∷ 6 ∷ 7 ∷ 8 ∷ 600951824056320 ∷ 601020543533056 ∷ [])
    ∷ (601432860393472 ∷ 601501579870208 ∷ 5 ∷ 3 ∷ 5 ∷ 5 ∷ 6 ∷ 7 ∷ 8 ∷ 602051335684096 ∷ 602120055160832 ∷ [])
    ∷ (602532372021248 ∷ 602601091497984 ∷ 5 ∷ 5 ∷ 4 ∷ 5 ∷ 6 ∷ 7 ∷ 8 ∷ 603150847311872 ∷ 603219566788608 ∷ [])
    ∷ (603631883649024 ∷ 599577434521600 ∷ 5 ∷ 5 ∷ 5 ∷ 5 ∷ 6 ∷ 7 ∷ 8 ∷ 604250358939648 ∷ 604319078416384 ∷ [])
    ∷ (604731395276800 ∷ 604800114753536 ∷ 6 ∷ 6 ∷ 6 ∷ 6 ∷ 6 ∷ 605212431613952 ∷ 8 ∷ 605349870567424 ∷ 605418590044160 ∷ [])
    ∷ (605830906904576 ∷ 605899626381312 ∷ 7 ∷ 7 ∷ 7 ∷ 7 ∷ 606243223764992 ∷ 7 ∷ 8 ∷ 606449382195200 ∷ 606518101671936 ∷ [])
    ∷ (606930418532352 ∷ 606999138009088 ∷ 8 ∷ 8 ∷ 8 ∷ 8 ∷ 8 ∷ 8 ∷ 8 ∷ 607548893822976 ∷ 607617613299712 ∷ [])
    ∷ (608029930160128 ∷ 608098649636864 ∷ 608167369113600 ∷ 608236088590336 ∷ 608304808067072 ∷ 608373527543808 ∷ 608442247020544 ∷ 608510966497280 ∷ 608579685974016 ∷ 9 ∷ 608717124927488 ∷ [])
    ∷ (609129441787904 ∷ 609198161264640 ∷ 609266880741376 ∷ 609335600218112 ∷ 609404319694848 ∷ 609473039171584 ∷ 609541758648320 ∷ 609610478125056 ∷ 609679197601792 ∷ 609747917078528 ∷ 10 ∷ [])
    ∷ []

-- ONE TEST over its 121 cells
tested : T (every (row 11 cell) 0 joins)
unfolding joins cell join_categories same_type compare compare_numbers join_primitive narrow under_double elem word_of pack
tested = tt

pub returns : goal.returns
unfolding joins
returns c = rule 11 cell joins [] tested c.args.left c.args.right c.requires.0 c.requires.1
