pub mod OneNearest
