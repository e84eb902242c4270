-- A byte by its character: `ascii "P"` is 80.
pub use Prim.Native.Char.{code as ascii}
