-- Each file by its own function.
use Rattle.shape_files.proofs.Whole.{of_same, the_main, the_index}
use Rattle.shape_files.proofs.write.Goals as goal

pub returns-in-Main : goal.returns-in-Main
returns-in-Main c =
    let a = c.args in
    of_same (the_main a.layer a.passages.now c.in-Main.is) c.main_file.ensures

pub returns-in-Index : goal.returns-in-Index
returns-in-Index c =
    let a = c.args in
    of_same (the_index a.layer a.passages.now c.in-Index.is) c.index_file.ensures
