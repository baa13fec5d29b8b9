-- The fields, one behind the other.
use Rattle.shape_files.proofs.Heading.{title_put}
use Rattle.shape_files.proofs.put_title.Goals as goal

pub returns : goal.returns
returns c =
    let a = c.args in
    title_put a.out.now a.words a.code c.put_in.ensures c.put_in-2.ensures c.put_in-3.ensures c.put_in-4.ensures c.put_in-5.ensures
