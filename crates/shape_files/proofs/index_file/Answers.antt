-- The header, and the entries behind it.
use Rattle.shapefile.specs.Files.{index_file, figures, type_of}
use Rattle.shape_files.proofs.Whole.{short_so, long_so, figures-length, index_size, index_put}
use Rattle.std.proofs.lemmas.Result.{err_from_is_err_and}
use native.Mathlib.Omega.{arith}
use Prim.Native.Nat.{◌/◌, ◌+◌, ◌*◌}
use mathlib.Core.Path.{◌≡◌}
use lib.ListN.{length}
use Rattle.shape_files.proofs.index_file.Goals as goal

pub returns-in_err-begin : goal.returns-in_err-begin
returns-in_err-begin c =
    let a = c.args in
    let f = figures a.layer a.passages.now in
    let r = c.in_err-begin.ensures in
    let p = err_from_is_err_and c.from_residual.result c.from_residual.ensures.1 in
    rw (p.1, p.2, r.2) (short_so (index_file (type_of a.layer) f) a.out.now (index_size a.layer a.passages.now) r.0 r.1)

pub returns : goal.returns
returns c =
    let a = c.args in
    let ps = a.passages.now in
    let f = figures a.layer ps in
    let t = type_of a.layer in
    let k = figures-length a.layer ps in
    let w : (100 + 8 * length ps) / 2 ≡ 50 + 4 * length f = omega arith in
    let b = c.in_ok-begin.ensures in
    long_so (index_file t f) a.out.now (index_size a.layer ps) b.0 (index_put b.1 w c.put_entries.ensures)
