mod CoverRows
mod Relabelled
