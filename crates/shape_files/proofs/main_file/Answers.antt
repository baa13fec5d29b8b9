-- The header, and the records behind it.
use Rattle.shapefile.specs.Files.{records_from, main_file, figures, type_of}
use Rattle.shape_files.proofs.Whole.{short_so, long_so, main_length, main_put}
use Rattle.std.proofs.lemmas.Result.{err_from_is_err_and}
use native.Mathlib.Omega.{arith}
use Prim.Native.Nat.{◌/◌, ◌+◌}
use mathlib.Core.Path.{◌≡◌}
use lib.ListN.{length}
use Rattle.shape_files.proofs.main_file.Goals as goal

pub returns-in_err-begin : goal.returns-in_err-begin
returns-in_err-begin c =
    let a = c.args in
    let f = figures a.layer a.passages.now in
    let e = c.size_of-total.ensures.0 in
    let g : length (main_file (type_of a.layer) f) ≡ 100 + c.size_of-total.result = omega (arith, main_length (type_of a.layer) f) in
    let r = c.in_err-begin.ensures in
    let p = err_from_is_err_and c.from_residual.result c.from_residual.ensures.1 in
    rw (p.1, p.2, r.2) (short_so (main_file (type_of a.layer) f) a.out.now g r.0 r.1)

pub returns : goal.returns
returns c =
    let a = c.args in
    let f = figures a.layer a.passages.now in
    let t = type_of a.layer in
    let size = c.size_of-total.result in
    let e : size ≡ length (records_from 1 f) = c.size_of-total.ensures.0 in
    let g : length (main_file t f) ≡ 100 + size = omega (arith, main_length t f) in
    let w : (100 + size) / 2 ≡ 50 + length (records_from 1 f) / 2 = omega arith in
    let b = c.in_ok-begin.ensures in
    long_so (main_file t f) a.out.now g b.0 (main_put b.1 w c.put_records.ensures)
